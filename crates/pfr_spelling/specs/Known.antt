-- Words that are written otherwise by what is known beside them.
use Rattle.std.specs.Prelude.{ℕ, ◌-◌, ◌==◌, ◌&&◌, ◌||◌, Bool, true, false, not, nat_le, nat_lt, if◌then◌else◌, List, [], ◌∷◌, ◌++◌, length, take, drop, codes, Option, Some, None}
use Rattle.pfr_given.specs.Entries.{texts_of}
use Rattle.pfr_given.specs.Texts.{joined_by}
use Rattle.pfr_given.specs.declared.entry.Given.{Given}
use Rattle.pfr_given.specs.declared.entry.Subject.{Subject}
use Rattle.pfr_given.specs.declared.entry.Subject.TheVariants as subject
use Rattle.std.specs.Fmt.{decimal}
use Rattle.std.specs.Str.{bytes_eq}
use Rattle.pfr_words.specs.Names.{is_grammar_word, service_named}
use Rattle.pfr_marks.specs.Marks.{is}
use Rattle.pfr_marks.specs.declared.mark.Mark.{Mark}
use Rattle.pfr_phrases.specs.Changes.{finding_at}
use Rattle.pfr_phrases.specs.Changing.{touches}
use Rattle.pfr_phrases.specs.Contexts.{is_nothing}
use Rattle.pfr_phrases.specs.Statements.{end_of}
use Rattle.pfr_phrases.specs.Values.{is_network, says_address}
use Rattle.pfr_phrases.specs.declared.change.Becomes.TheVariants as becomes
use Rattle.pfr_phrases.specs.declared.change.Found.{Found}
use Rattle.pfr_phrases.specs.declared.change.Text.{Text}
use Rattle.pfr_phrases.specs.declared.context.Context.{Context}
use Rattle.pfr_phrases.specs.declared.context.Says.{Says}
use Rattle.pfr_phrases.specs.declared.context.Says.TheVariants as says
use Rattle.pfr_phrases.specs.declared.reason.Reason.{Reason}
use Rattle.pfr_phrases.specs.declared.reason.Reason.TheVariants as reason
use Rattle.pfr_spelling.specs.Macros.{definition_in, is_plain, spelled_out, used_value}
use Rattle.pfr_spelling.specs.declared.known.Known.{Known}
use Rattle.pfr_spelling.specs.declared.known.Replaced.{Replaced}
use Rattle.pfr_spelling.specs.declared.macros.Spelled.{Spelled}

-- a text in which nothing was rewritten
abbrev pub as_given : List ℕ → Text
as_given bytes = record { bytes = bytes; reasons = [] }

-- a word ends right where a mark begins that isn't plain
abbrev pub is_parted : Context → Mark → Bool
is_parted context mark = nat_lt 0 mark.start.offset && (context.behind.offset == mark.start.offset) && not (is_plain mark.piece)

-- the ends of lines in what goes that stay: all of a statement or of a list, and none of a line that is continued
abbrev pub kept_lines : Context → ℕ → ℕ
kept_lines context count = if is_nothing context.within || context.in_braces then count else 0

abbrev pub change_by : Context → Mark → Mark → List Mark → Replaced → Found
change_by context word first marks found = let end = end_of first.start (take found.count marks) in record {
  count = found.count;
  change = record {
    from = first.start.offset;
    parted = is_parted context first;
    to = end;
    becomes = becomes.Lines (kept_lines context (end.line - first.start.line));
    blank = touches end (drop found.count marks);
    finding = finding_at word found.reason;
    text = Some found.text;
  };
}

-- the first marks as a change that puts a text in their place, for a word among them
unfoldable pub text_change : Context → Mark → List Mark → Option Replaced → Option Found
text_change context word marks None = None
text_change context word [] (Some found) = None
text_change context word (first ∷ marks) (Some found) = Some (change_by context word first (first ∷ marks) found)

-- ---- what is given

-- what a word names, by what words say
abbrev pub subject_of : Says → Option Subject
subject_of says.Address = Some subject.Address
subject_of says.Target = Some subject.Address
subject_of says.Interface = Some subject.Interface
subject_of says.Port = Some subject.Service
subject_of _ = None

abbrev pub reason_for : Subject → Reason
reason_for subject.Interface = reason.Group
reason_for subject.Service = reason.Name
reason_for _ = reason.Host

abbrev pub says_target : Says → Bool
says_target says.Target = true
says_target _ = false

-- one value must stand here, and no list
abbrev pub takes_one : Context → Bool
takes_one context = context.behind_operator || says_target context.says && not context.in_braces

-- texts as a list, with its braces if it needs them
abbrev pub enclosed : Bool → List ℕ → List ℕ
enclosed encloses texts = if encloses then (codes "{ " ++ texts) ++ codes " }" else texts

abbrev pub is_port : Option ℕ → List ℕ → Bool
is_port None port = false
is_port (Some known) port = bytes_eq (decimal known) port

-- a service that the strict reader knows with this port
abbrev pub is_known_port : (name port : List ℕ) → Bool
is_known_port name port = is_port (service_named name) port

-- texts that aren't written: they are the word's port, or several addresses of a target
abbrev pub are_needless : Context → Subject → (word texts : List ℕ) → Bool
are_needless context subject.Service word texts = is_known_port word texts
are_needless context subject.Address word texts = says_target context.says && is_network texts
are_needless context _ word texts = false

abbrev pub written_texts : (encloses is_needless : Bool) → List ℕ → Option (List ℕ)
written_texts encloses is_needless texts = if is_needless then None else Some (enclosed encloses texts)

abbrev pub text_of : Context → Subject → Spelled → List (List ℕ) → Option (List ℕ)
text_of context asked spelled texts =
    if length texts == 0 || nat_lt 1 (length texts) && takes_one context || is_grammar_word spelled.word then None
    else written_texts (nat_lt 1 (length texts) && not context.in_braces)
    (are_needless context asked spelled.word (joined_by (codes ", ") texts)) (joined_by (codes ", ") texts)

-- what is given for a word as this subject, as it is written in its place: several texts not behind a sign that wants
-- one
unfoldable pub text_for : Given → Context → Subject → Spelled → Option (List ℕ)
text_for given context asked spelled = text_of context asked spelled (texts_of given asked (spelled.word ++ spelled.suffix))

abbrev pub replaced_by : Option (List ℕ) → ℕ → Reason → Option Replaced
replaced_by None count why = None
replaced_by (Some bytes) count why = Some (record { count = count; text = as_given bytes; reason = why })

abbrev pub given_as : Option Subject → Given → Context → Spelled → ℕ → Option Replaced
given_as None given context spelled count = None
given_as (Some asked) given context spelled count = replaced_by (text_for given context asked spelled) count (reason_for asked)

abbrev pub given_for : Given → Context → Spelled → ℕ → Option Replaced
given_for given context spelled count = given_as (subject_of context.says) given context spelled count

abbrev pub given_by : Option Spelled → Given → Context → Mark → List Mark → ℕ → Option Found
given_by None given context word marks count = None
given_by (Some spelled) given context word marks count = text_change context word marks (given_for given context spelled count)

abbrev pub given_change : Given → Known → Context → Mark → List Mark → ℕ → Option Found
given_change given known context word marks count = given_by (spelled_out known.macros word.piece) given context word marks count

-- a word in round brackets
abbrev pub are_bracketed : List Mark → Bool
are_bracketed (first ∷ word ∷ last ∷ marks) = is (codes "(") first && is (codes ")") last
are_bracketed _ = false

-- `(self)`
abbrev pub own_change : Context → Mark → List Mark → Option Found
own_change context word marks = text_change context word marks (replaced_by (Some (codes "self")) 3 reason.Brackets)

abbrev pub given_in_brackets : Given → Known → Context → List Mark → Option Found
given_in_brackets given known context (first ∷ word ∷ marks) =
    if is (codes "self") word then own_change context word (first ∷ word ∷ marks)
    else given_change given known context word (first ∷ word ∷ marks) 3
given_in_brackets given known context _ = None

abbrev pub given_first : Given → Known → Context → List Mark → Option Found
given_first given known context [] = None
given_first given known context (word ∷ marks) = given_change given known context word (word ∷ marks) 1

-- the word at the front of marks that is given, maybe in round brackets
unfoldable pub given_here : Given → Known → Context → List Mark → Option Found
given_here given known context marks =
    if says_address context.says && are_bracketed marks then given_in_brackets given known context marks
    else given_first given known context marks

-- ---- what is known behind a mark

abbrev pub if_within : Option (List ℕ) → ℕ → Option (List ℕ)
if_within None left = None
if_within (Some value) left = if nat_le (length value) left then Some value else None

-- the value of the macro at the front of marks, if it has at most `left` bytes
abbrev pub value_within : Known → ℕ → List Mark → Option (List ℕ)
value_within known left [] = None
value_within known left (first ∷ marks) = if_within (used_value known.macros first.piece) left

abbrev pub len_of_value : Option (List ℕ) → ℕ
len_of_value None = 0
len_of_value (Some value) = length value

abbrev pub value_len : Known → List Mark → ℕ
value_len known [] = 0
value_len known (first ∷ marks) = len_of_value (used_value known.macros first.piece)

abbrev pub known_behind : Known → Context → List Mark → Known
known_behind known context marks =
    record known { macros = known.macros ++ definition_in known.macros context marks; left = known.left - value_len known marks }
