-- Ports, tables and macros that are written otherwise by what is known beside them.
use Rattle.std.specs.Prelude.{◌≡◌, ℕ, zero, suc, ◌+◌, ◌-◌, ◌==◌, ◌&&◌, ◌||◌, Bool, true, false, not, nat_lt, if◌then◌else◌, List, [], ◌∷◌, ◌++◌, length, map, take, drop, codes, Option, Some, None, IfSome}
use Rattle.std.specs.Fmt.{decimal}
use Rattle.std.specs.Option.{is_none}
use Rattle.pfr_given.specs.Entries.{texts_of}
use Rattle.pfr_given.specs.Texts.{joined_by}
use Rattle.pfr_given.specs.declared.entry.Given.{Given}
use Rattle.pfr_given.specs.declared.entry.Subject.TheVariants as subject
use Rattle.pfr_words.specs.Names.{is_name}
use Rattle.pfr_marks.specs.Braces.{are_closed}
use Rattle.pfr_marks.specs.Marks.{beginning, begins_with, is, marks}
use Rattle.pfr_marks.specs.declared.mark.Mark.{Mark}
use Rattle.pfr_phrases.specs.Applying.{between, rewritten}
use Rattle.pfr_phrases.specs.Changing.{change_at, change_in, change_of, first_found, passed_by}
use Rattle.pfr_phrases.specs.Contexts.{context_behind, is_table_statement}
use Rattle.pfr_phrases.specs.Phrases.{file_phrase_at}
use Rattle.pfr_phrases.specs.Statements.{end_of}
use Rattle.pfr_phrases.specs.Values.{number_of}
use Rattle.pfr_phrases.specs.declared.change.Change.{Change}
use Rattle.pfr_phrases.specs.declared.change.Found.{Found}
use Rattle.pfr_phrases.specs.declared.change.Text.{Text}
use Rattle.pfr_phrases.specs.declared.context.Context.{Context}
use Rattle.pfr_phrases.specs.declared.context.Says.{Says}
use Rattle.pfr_phrases.specs.declared.context.Says.TheVariants as says
use Rattle.pfr_phrases.specs.declared.context.Within.{Within}
use Rattle.pfr_phrases.specs.declared.context.Within.TheVariants as within
use Rattle.pfr_phrases.specs.declared.phrases.Phrase.{Phrase}
use Rattle.pfr_phrases.specs.declared.reason.Reason.TheVariants as reason
use Rattle.pfr_spelling.specs.Known.{given_here, replaced_by, text_change}
use Rattle.pfr_spelling.specs.Macros.{is_plain, used_value}
use Rattle.pfr_spelling.specs.Tables.{is_table, new_name}
use Rattle.pfr_spelling.specs.declared.known.Known.{Known}
use Rattle.pfr_spelling.specs.declared.known.Replaced.{Replaced}
use Rattle.pfr_spelling.specs.declared.tables.Table.{Table}

-- where the first colon of a word stands, or its end
abbrev pub colon_from : ℕ → List ℕ → ℕ
colon_from before [] = before
colon_from before (b ∷ word) = if b == 58 then before else colon_from (before + 1) word

abbrev pub number_text : Option ℕ → Option (List ℕ)
number_text None = None
number_text (Some number) = Some (decimal number)

-- the port of a service that the strict reader doesn't know
unfoldable pub port_text : Given → List ℕ → Option (List ℕ)
port_text given name =
    if length (texts_of given subject.Service (name ++ [])) == 1
    then Some (joined_by (codes ", ") (texts_of given subject.Service (name ++ [])))
    else number_text (number_of says.Port name)

abbrev pub port_or : Option (List ℕ) → List ℕ → List ℕ
port_or None name = name
port_or (Some port) name = port

abbrev pub range_text : List ℕ → Option (List ℕ) → List ℕ → Option (List ℕ) → List ℕ
range_text low first high last = (port_or first low ++ 58 ∷ []) ++ port_or last high

abbrev pub ports_by : List ℕ → Option (List ℕ) → List ℕ → Option (List ℕ) → Option (List ℕ)
ports_by low first high last = if is_none first && is_none last then None else Some (range_text low first high last)

abbrev pub ports_of : Given → (low behind : List ℕ) → Option (List ℕ)
ports_of given low [] = None
ports_of given low (colon ∷ high) = ports_by low (port_text given low) high (port_text given high)

-- a range of ports, if the strict reader doesn't know one of them
unfoldable pub ports_text : Given → List ℕ → Option (List ℕ)
ports_text given word = ports_of given (take (colon_from 0 word) word) (drop (colon_from 0 word) word)

abbrev pub says_port : Says → Bool
says_port says.Port = true
says_port _ = false

unfoldable pub ports_here : Given → Context → List Mark → Option Found
ports_here given context [] = None
ports_here given context (word ∷ marks) =
    if not (says_port context.says) then None
    else text_change context word (word ∷ marks) (replaced_by (ports_text given word.piece) 1 reason.Name)

-- ---- tables

-- the table's name at the front of marks that a table may not have here
unfoldable pub table_here : List Table → Context → List Mark → Option Found
table_here tables context [] = None
table_here tables context (word ∷ marks) =
    if not context.in_angles || not (is_plain word.piece) || is_name word.piece then None
    else text_change context word (word ∷ marks) (replaced_by (new_name tables word.piece) 1 reason.TableName)

-- ---- values

-- what is rewritten at the front of marks that may be of a value
unfoldable pub value_here : Given → Known → Context → List Mark → Option Found
value_here given known context marks =
    first_found (table_here known.tables context marks) (first_found (given_here given known context marks) (ports_here given context marks))

-- what is rewritten at the front of a value's marks
unfoldable pub value_change_at : Given → Known → Context → List Mark → Option Found
value_change_at given known context marks = first_found (value_here given known context marks) (change_at context marks)

abbrev pub value_changes_at : Given → Known → Context → ℕ → List Mark → List Change
value_changes_at given known context zero marks = change_in (value_change_at given known context marks)
value_changes_at given known context (suc passed) marks = []

abbrev pub value_passed : Given → Known → Context → ℕ → List Mark → ℕ
value_passed given known context zero marks = passed_by (value_change_at given known context marks)
value_passed given known context (suc passed) marks = passed

-- what is rewritten of a value, if its first `passed` marks belong to a change
abbrev pub value_changes : Given → Known → Context → ℕ → List Mark → List Change
value_changes given known context passed [] = []
value_changes given known context passed (mark ∷ marks) =
    value_changes_at given known context passed (mark ∷ marks)
    ++ value_changes given known (context_behind context (mark ∷ marks)) (value_passed given known context passed (mark ∷ marks)) marks

-- a value as it is written in a context
unfoldable pub value_text : Given → Known → Context → List ℕ → Text
value_text given known context value = let changes = value_changes given known (record context { behind = beginning }) 0 (marks value) in record {
  bytes = (rewritten value changes).text;
  reasons = map (λ change. change.finding.reason) changes;
}

abbrev pub is_setting : Within → Bool
is_setting within.Setting = true
is_setting _ = false

abbrev pub written_where : Says → Context → List Mark → Bool
written_where says.Nothing context behind = not (is_setting context.within)
written_where says.Timeout context behind = true
written_where says.Limit context behind = true
written_where says.Port context behind = context.behind_operator || context.has_target
written_where says.IcmpType context behind = begins_with behind (codes "code")
written_where _ context behind = false

-- no macro may stand before these marks
abbrev pub is_written_out : Context → List Mark → Bool
is_written_out context behind =
    if context.in_angles || context.has_value && not context.in_braces then true else written_where context.says context behind

abbrev pub if_written : Bool → Text → Option Replaced
if_written is_written text =
    if length text.reasons == 0 && not is_written then None
    else Some (record { count = 1; text = text; reason = reason.Macro })

abbrev pub IsOneMark : Option Replaced → Type 0
IsOneMark found = IfSome found (λ found. found.count ≡ 1)

-- the last of these marks closes a list
abbrev pub ends_list : Bool → List Mark → Bool
ends_list ends [] = ends
ends_list ends (mark ∷ marks) = ends_list (is (codes "}") mark) marks

-- the part of a value that stands in a list: if the value is a list, what is between its braces
abbrev pub listed : Bool → List ℕ → List Mark → List ℕ
listed in_braces value [] = value
listed in_braces value (first ∷ marks) =
    if not (in_braces && is (codes "{") first && ends_list false (first ∷ marks)) then value
    else between first.end.offset ((end_of beginning (first ∷ marks)).offset - 1) value

-- what is written for a value: nothing if a brace of it isn't closed, or closes nothing
unfoldable pub macro_text : Given → Known → Context → List ℕ → Option Text
macro_text given known context value =
    if not (are_closed (marks value)) then None
    else Some (value_text given known context (listed context.in_braces value (marks value)))

abbrev pub replaced_if : Bool → Option Text → Option Replaced
replaced_if is_written None = None
replaced_if is_written (Some text) = if_written is_written text

abbrev pub macro_replaced : Given → Known → Context → List ℕ → List Mark → Option Replaced
macro_replaced given known context value behind =
    if nat_lt known.left (length value) then None
    else replaced_if (is_written_out context behind) (macro_text given known context value)

abbrev pub macro_by : Option (List ℕ) → Given → Known → Context → Mark → List Mark → Option Found
macro_by None given known context word behind = None
macro_by (Some value) given known context word behind =
    text_change context word (word ∷ behind) (macro_replaced given known context value behind)

-- the use of a macro at the front of marks, if its value is written out
unfoldable pub macro_here : Given → Known → Context → List Mark → Option Found
macro_here given known context [] = None
macro_here given known context (word ∷ marks) = macro_by (used_value known.macros word.piece) given known context word marks

-- ---- files of tables

abbrev pub table_in : List Mark → List ℕ
table_in (first ∷ opened ∷ name ∷ marks) = if is_table (opened ∷ name ∷ marks) then name.piece else []
table_in _ = []

-- the name of the table that a statement is about
abbrev pub table_named : List Mark → List ℕ
table_named statement = table_in statement

abbrev pub among_entries : Context → Context
among_entries context = record context { says = says.Address; in_braces = true; behind_operator = false; has_value = false }

-- what is given for a table, in braces
unfoldable pub entries_text : Given → Known → Context → List ℕ → Text
entries_text given known context name =
    let text = value_text given known (among_entries context) (joined_by (codes ", ") (texts_of given subject.Table (name ++ []))) in
    record { bytes = (codes "{ " ++ text.bytes) ++ codes " }"; reasons = text.reasons }

abbrev pub file_by : Option (ℕ × Phrase) → Given → Known → Context → List ℕ → List Mark → Option Found
file_by None given known context name marks = None
file_by (Some found) given known context name [] = None
file_by (Some found) given known context name (word ∷ marks) =
    if length (texts_of given subject.Table (name ++ [])) == 0 then None
    else if context.has_file then change_of context word (word ∷ marks) found.0 found.1
    else text_change context word (word ∷ marks) (Some (record { count = found.0; text = entries_text given known context name; reason = reason.TableFile }))

-- `file` and what is behind it, if what the table's files hold is given
unfoldable pub file_here : Given → Known → Context → List Mark → List Mark → Option Found
file_here given known context statement marks =
    if not (is_table_statement context.within) || context.in_braces then None
    else file_by (file_phrase_at marks) given known context (table_named statement) marks
