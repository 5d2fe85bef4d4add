-- What is rewritten of a text.
use Rattle.std.specs.Prelude.{ℕ, ◌+◌, ◌-◌, ◌==◌, ◌&&◌, ◌||◌, Bool, true, false, not, if◌then◌else◌, List, [], ◌∷◌, take, drop, codes, Option, Some, None}
use Rattle.pfr_words.specs.Names.{is_among}
use Rattle.pfr_marks.specs.declared.mark.Mark.{Mark}
use Rattle.pfr_marks.specs.declared.mark.Place.{Place}
use Rattle.pfr_marks.specs.Marks.{begins_with, is}
use Rattle.pfr_phrases.specs.declared.change.Becomes.{Becomes}
use Rattle.pfr_phrases.specs.declared.change.Becomes.TheVariants as becomes
use Rattle.pfr_phrases.specs.declared.change.Change.{Change}
use Rattle.pfr_phrases.specs.declared.change.Found.{Found}
use Rattle.pfr_phrases.specs.declared.context.Context.{Context}
use Rattle.pfr_phrases.specs.declared.context.Says.{Says}
use Rattle.pfr_phrases.specs.declared.context.Says.TheVariants as says
use Rattle.pfr_phrases.specs.declared.context.Within.{Within}
use Rattle.pfr_phrases.specs.declared.context.Within.TheVariants as within
use Rattle.pfr_phrases.specs.declared.options.Group.{Group}
use Rattle.pfr_phrases.specs.declared.options.Group.TheVariants as group
use Rattle.pfr_phrases.specs.declared.phrases.Phrase.{Phrase}
use Rattle.pfr_phrases.specs.declared.lengths.Takes.TheVariants as takes
use Rattle.pfr_phrases.specs.declared.reason.Reason.{Reason}
use Rattle.pfr_phrases.specs.declared.reason.Reason.TheVariants as reason
use Rattle.pfr_phrases.specs.Changes.{finding_at}
use Rattle.pfr_phrases.specs.Options.{are_all_left_out, element_len, is_no_address, option_at}
use Rattle.pfr_phrases.specs.Phrases.{label_phrase_at, pool_phrase_at, rule_phrase_at}
use Rattle.pfr_phrases.specs.Lengths.{newlines_from}
use Rattle.pfr_phrases.specs.Settings.{setting_at}
use Rattle.pfr_phrases.specs.Statements.{end_of, statement_left_out}
use Rattle.pfr_phrases.specs.Values.{value_phrase}

-- the signs before which no blank is put
abbrev pub closers : List (List ℕ)
closers = codes "\n" ∷ codes ")" ∷ codes "}" ∷ codes "," ∷ codes ">" ∷ []

unfoldable pub is_closer : List ℕ → Bool
is_closer word = is_among closers word

-- a word begins right where a change ends
abbrev pub touches : Place → List Mark → Bool
touches end [] = false
touches end (mark ∷ marks) = mark.start.offset == end.offset && not (is_closer mark.piece)

-- what is left out takes the blanks before it along, on its line
abbrev pub start_of : Context → Place → Becomes → ℕ
start_of context start becomes.Nothing = if context.behind.line == start.line then context.behind.offset else start.offset
start_of context start _ = start.offset

abbrev pub change_from : Context → Place → Mark → List Mark → ℕ → Phrase → Found
change_from context start word marks count phrase = let end = end_of start (take count marks) in record {
  count = count;
  change = record {
    from = start_of context start phrase.1;
    parted = false;
    to = end;
    becomes = phrase.1;
    blank = touches end (drop count marks);
    finding = finding_at word phrase.2;
    text = None;
  };
}

-- the first marks as a change, for a word among them
unfoldable pub change_of : Context → Mark → List Mark → ℕ → Phrase → Option Found
change_of context word [] count phrase = None
change_of context word (first ∷ marks) count phrase = Some (change_from context first.start word (first ∷ marks) count phrase)

abbrev pub phrase_found : Context → List Mark → Option (ℕ × Phrase) → Option Found
phrase_found context marks None = None
phrase_found context [] (Some found) = None
phrase_found context (first ∷ marks) (Some found) = change_of context first (first ∷ marks) found.0 found.1

abbrev pub first_of : Option (ℕ × Phrase) → Option (ℕ × Phrase) → Option (ℕ × Phrase)
first_of (Some found) second = Some found
first_of None second = second

abbrev pub phrase_if : Bool → Option (ℕ × Phrase) → Option (ℕ × Phrase)
phrase_if holds phrase = if holds then phrase else None

-- the phrase of a rule outside of brackets: a label behind another one, what stands behind a target, or one that may stand anywhere
unfoldable pub phrase_here : Context → List Mark → Option (ℕ × Phrase)
phrase_here context marks =
    first_of (first_of (phrase_if context.has_label (label_phrase_at marks)) (phrase_if context.has_target (pool_phrase_at marks))) (rule_phrase_at marks)

-- a word of a rule outside of brackets, with what it takes
unfoldable pub phrase_change : Context → List Mark → Option Found
phrase_change context marks = phrase_found context marks (phrase_here context marks)

-- the signs before an option that go with it: a comma, or an open bracket
abbrev pub lead_len : List Mark → ℕ
lead_len marks = if begins_with marks (codes ",") || begins_with marks (codes "(") then 1 else 0

-- the signs behind it: the bracket's end, if it holds nothing else, or a comma, if none went before
abbrev pub trail_len : (emptied takes_comma : Bool) → List Mark → ℕ
trail_len emptied takes_comma behind =
    if emptied && begins_with behind (codes ")") then 1
    else if takes_comma && begins_with behind (codes ",") then 1
    else 0

abbrev pub option_found : Context → Bool → List Mark → List Mark → Option (ℕ × Phrase) → Option Found
option_found context emptied marks option None = None
option_found context emptied marks [] (Some found) = None
option_found context emptied marks (word ∷ more) (Some found) =
    let trail = trail_len emptied (not (begins_with marks (codes ","))) (drop found.0 (word ∷ more)) in
    change_of context word marks (lead_len marks + found.0 + trail) found.1

-- an option in the brackets behind `keep state`, with the signs that go with it
unfoldable pub option_change : Context → Bool → List Mark → Option Found
option_change context emptied marks = let option = drop (lead_len marks) marks in option_found context emptied marks option (option_at option)

-- brackets are opened that hold nothing but what is left out
unfoldable pub opens_emptied : List Mark → Bool
opens_emptied [] = false
opens_emptied (first ∷ marks) =
    is (codes "(") first && not (begins_with marks (codes ",")) && are_all_left_out group.Options marks

abbrev pub value_found : Context → List Mark → Option Phrase → Option Found
value_found context marks None = None
value_found context [] (Some phrase) = None
value_found context (word ∷ marks) (Some phrase) = change_of context word (word ∷ marks) 1 phrase

-- a word of a list or a value by itself
unfoldable pub value_change : Context → List Mark → Option Found
value_change context [] = None
value_change context (word ∷ marks) = value_found context (word ∷ marks) (value_phrase context.says word.piece)

abbrev pub sign_len : List ℕ → List Mark → ℕ
sign_len sign marks = if begins_with marks sign then 1 else 0

-- how many marks there are up to a comma that follows, maybe on another line, with it
abbrev pub comma_len : List Mark → ℕ
comma_len behind = let lines = newlines_from 0 behind in if begins_with (drop lines behind) (codes ",") then lines + 1 else 0

-- how many stand before an element that go with it: a comma, and the ends of lines behind it
abbrev pub comma_before : List Mark → ℕ
comma_before [] = 0
comma_before (first ∷ marks) = if not (is (codes ",") first) then 0 else 1 + newlines_from 0 marks

-- the ends of lines between two places
abbrev pub lines_between : Place → Place → Becomes
lines_between start end = if start.line == end.line then becomes.Nothing else becomes.Lines (end.line - start.line)

-- the ends of lines among the first marks, which stay
abbrev pub lines_in : List Mark → ℕ → Becomes
lines_in [] count = becomes.Nothing
lines_in (first ∷ marks) count = lines_between first.start (end_of first.start (take count (first ∷ marks)))

-- why an element is left out
abbrev pub reason_of : Group → List Mark → Reason
reason_of group.Timeouts element = reason.Adaptive
reason_of group.Limits element = reason.Setting
reason_of _ element = if is_no_address element then reason.NoRoute else reason.Inet6Address

-- an element of a list, as a change of marks of which `lead` stand before it, with the comma behind it if none is before
abbrev pub element_of : Context → Reason → List Mark → ℕ → List Mark → ℕ → Option Found
element_of context why marks lead [] len = None
element_of context why marks lead (word ∷ more) len =
    let trail = if begins_with marks (codes ",") then 0 else comma_len (drop len (word ∷ more)) in
    let count = lead + len + trail in
    change_of context word marks count (record { 0 = takes.Nothing; 1 = lines_in marks count; 2 = why })

abbrev pub element_in : Context → Group → List Mark → ℕ → List Mark → Option Found
element_in context left_out marks lead element =
    if element_len left_out element == 0 then None
    else element_of context (reason_of left_out element) marks lead element (element_len left_out element)

-- which elements are left out of a list of what words say
abbrev pub group_of : Says → Option Group
group_of says.Address = Some group.Unseen
group_of says.Target = Some group.Unseen
group_of says.Timeout = Some group.Timeouts
group_of says.Limit = Some group.Limits
group_of _ = None

abbrev pub left_out_of : Context → Option Group
left_out_of context = if context.in_braces then group_of context.says else None

abbrev pub list_found : Option Group → Context → List Mark → Option Found
list_found None context marks = None
list_found (Some left_out) context marks =
    let comma = comma_before marks in
    let lead = comma + sign_len (codes "!") (drop comma marks) in
    element_in context left_out marks lead (drop lead marks)

-- an element of a list that is left out, with a `!` before it and the comma that goes with it
unfoldable pub list_change : Context → List Mark → Option Found
list_change context marks = list_found (left_out_of context) context marks

abbrev pub element_found : Option Found → Context → List Mark → Option Found
element_found (Some found) context marks = Some found
element_found None context marks = value_change context marks

-- a word of a list
unfoldable pub element_change : Context → List Mark → Option Found
element_change context marks = element_found (list_change context marks) context marks

-- a word of a rule outside of braces
unfoldable pub word_change : Context → List Mark → Option Found
word_change context marks =
    if opens_emptied marks then option_change context true marks
    else if context.in_brackets then option_change context context.emptied marks
    else phrase_change context marks

-- a setting that is written otherwise
abbrev pub setting_found : Option Found → Context → List Mark → Option Found
setting_found (Some found) context marks = Some found
setting_found None context marks = phrase_found context marks (setting_at marks)

unfoldable pub setting_change : Context → List Mark → Option Found
setting_change context marks = setting_found (list_change context marks) context marks

abbrev pub rule_found : Option Found → Context → List Mark → Option Found
rule_found (Some found) context marks = Some found
rule_found None context marks = if context.in_braces then None else word_change context marks

unfoldable pub rule_change : Context → List Mark → Option Found
rule_change context marks = rule_found (element_change context marks) context marks

abbrev pub change_within : Within → Context → List Mark → Option Found
change_within within.Nothing context marks = statement_left_out marks
change_within within.Rule context marks = rule_change context marks
change_within within.Anchor context marks = rule_change context marks
change_within within.Table context marks = element_change context marks
change_within within.Setting context marks = setting_change context marks
change_within within.Other context marks = None

-- what is rewritten at the front of marks
unfoldable pub change_at : Context → List Mark → Option Found
change_at context marks = change_within context.within context marks

-- the first of two changes that is there
abbrev pub first_found : Option Found → Option Found → Option Found
first_found (Some found) second = Some found
first_found None second = second

-- ---- one after the other

abbrev pub change_in : Option Found → List Change
change_in None = []
change_in (Some found) = found.change ∷ []

-- how many marks behind its first one a change has
abbrev pub passed_by : Option Found → ℕ
passed_by None = 0
passed_by (Some found) = found.count - 1
