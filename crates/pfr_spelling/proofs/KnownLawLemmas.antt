-- What is found at the front of marks covers some of them: by what is given, the macros and the tables of a text.
use Rattle.std.proofs.Common.{◌≡◌, ◌≤◌, ℕ, ◌==◌, ◌&&◌, ◌||◌, Bool, true, false, not, nat_lt, if◌then◌else◌, List, [], ◌∷◌, ◌++◌, arith, length, codes, Option, Some, None, refl}
use Rattle.std.specs.Bool.{⊤}
use Rattle.pfr_given.specs.declared.entry.Given.{Given}
use Rattle.pfr_marks.specs.Marks.{is, marks}
use Rattle.pfr_marks.specs.declared.mark.Mark.{Mark}
use Rattle.pfr_phrases.specs.Changing.{change_of, first_found}
use Rattle.pfr_phrases.specs.Contexts.{is_table_statement}
use Rattle.pfr_phrases.specs.Phrases.{file_phrase_at}
use Rattle.pfr_phrases.specs.Values.{is_network, says_address}
use Rattle.pfr_phrases.specs.declared.change.Text.{Text}
use Rattle.pfr_phrases.specs.declared.context.Context.{Context}
use Rattle.pfr_phrases.specs.declared.phrases.Phrase.{Phrase}
use Rattle.pfr_phrases.specs.declared.reason.Reason.{Reason}
use Rattle.pfr_phrases.specs.declared.reason.Reason.TheVariants as reason
use Rattle.pfr_phrases.proofs.CoverLawLemmas.{Counted, CoversIf, IsOneOf, either, file_counted, first_covers, is_first, is_second, of_change, some_if, unless}
use Rattle.pfr_spelling.specs.Known.{are_bracketed, given_as, given_by, given_change, given_first, given_for, given_here, given_in_brackets, own_change, reason_for, replaced_by, says_target, subject_of, text_change, text_for, value_within}
use Rattle.pfr_spelling.specs.Macros.{is_plain, spelled_out, used_value}
use Rattle.pfr_spelling.specs.Replacing.{entries_text, file_by, file_here, is_written_out, macro_by, macro_here, macro_replaced, macro_text, ports_here, ports_text, replaced_if, says_port, table_here, table_named, value_here, value_text}
use Rattle.pfr_spelling.specs.Tables.{new_name}
use Rattle.pfr_spelling.specs.Targets.{as_one, first_address, first_by, first_element, first_of_network, first_of_value, first_target, is_rule, list_from, one_address, target_by, target_here}
use Rattle.pfr_given.specs.declared.entry.Subject.{Subject}
use Rattle.pfr_given.specs.declared.entry.Subject.TheVariants as subject
use Rattle.pfr_given.specs.Entries.{texts_of}
use Rattle.pfr_words.specs.Names.{is_name}
use Rattle.pfr_spelling.specs.declared.known.Known.{Known}
use Rattle.pfr_spelling.specs.declared.known.Replaced.{Replaced}
use Rattle.pfr_spelling.specs.declared.macros.Spelled.{Spelled}
use Rattle.pfr_spelling.specs.declared.tables.Table.{Table}
use Rattle.pfr_spelling.specs.declared.targets.First.{First}

-- ---- a text in the place of the first marks

-- a text stands for one mark at least
abbrev pub StandsForSome : Option Replaced → Type 0
StandsForSome None = ⊤
StandsForSome (Some found) = 1 ≤ found.count

pub of_text : (context : Context) (word : Mark) (marks : List Mark) (found : Option Replaced) → IsOneOf word marks → StandsForSome found
    → CoversIf context marks (text_change context word marks found)
unfolding text_change
of_text context word [] None at some = tt
of_text context word [] (Some found) at some = tt
of_text context word (first ∷ marks) None at some = tt
of_text context word (first ∷ marks) (Some found) at some = (at found.reason, some, (λ before. (before, omega arith)), refl, refl)

pub stands_for : (bytes : Option (List ℕ)) (count : ℕ) (why : Reason) → 1 ≤ count → StandsForSome (replaced_by bytes count why)
stands_for None count why some = tt
stands_for (Some bytes) count why some = some

-- ---- what is given

of_subject : (asked : Option Subject) (given : Given) (context : Context) (spelled : Spelled) (count : ℕ) → 1 ≤ count
    → StandsForSome (given_as asked given context spelled count)
of_subject None given context spelled count some = tt
of_subject (Some asked) given context spelled count some = stands_for (text_for given context asked spelled) count (reason_for asked) some

of_spelled : (spelled : Option Spelled) (given : Given) (context : Context) (word : Mark) (marks : List Mark) (count : ℕ) → IsOneOf word marks
    → 1 ≤ count
    → CoversIf context marks (given_by spelled given context word marks count)
of_spelled None given context word marks count at some = tt
of_spelled (Some spelled) given context word marks count at some =
    of_text context word marks (given_for given context spelled count) at (of_subject (subject_of context.says) given context spelled count some)

in_brackets : (given : Given) (known : Known) (context : Context) (marks : List Mark)
    → CoversIf context marks (given_in_brackets given known context marks)
in_brackets given known context [] = tt
in_brackets given known context (first ∷ []) = tt
in_brackets given known context (first ∷ word ∷ marks) =
    either (CoversIf context (first ∷ word ∷ marks)) (is (codes "self") word)
    (own_change context word (first ∷ word ∷ marks)) (given_change given known context word (first ∷ word ∷ marks) 3)
    (of_text context word (first ∷ word ∷ marks) (replaced_by (Some (codes "self")) 3 reason.Brackets) (is_second first word marks) (omega arith))
    (of_spelled (spelled_out known.macros word.piece) given context word (first ∷ word ∷ marks) 3 (is_second first word marks) (omega arith))

at_front : (given : Given) (known : Known) (context : Context) (marks : List Mark) → CoversIf context marks (given_first given known context marks)
at_front given known context [] = tt
at_front given known context (word ∷ marks) =
    of_spelled (spelled_out known.macros word.piece) given context word (word ∷ marks) 1 (is_first word marks) (omega arith)

given_covers : (given : Given) (known : Known) (context : Context) (marks : List Mark) → CoversIf context marks (given_here given known context marks)
unfolding given_here
given_covers given known context marks =
    either (CoversIf context marks) (says_address context.says && are_bracketed marks) _ _ (in_brackets given known context marks)
    (at_front given known context marks)

-- ---- ports, tables and macros

ports_cover : (given : Given) (context : Context) (marks : List Mark) → CoversIf context marks (ports_here given context marks)
unfolding ports_here
ports_cover given context [] = tt
ports_cover given context (word ∷ marks) =
    unless (not (says_port context.says)) context (word ∷ marks)
    (text_change context word (word ∷ marks) (replaced_by (ports_text given word.piece) 1 reason.Name))
    (of_text context word (word ∷ marks) (replaced_by (ports_text given word.piece) 1 reason.Name) (is_first word marks)
    (stands_for (ports_text given word.piece) 1 reason.Name (omega arith)))

table_covers : (tables : List Table) (context : Context) (marks : List Mark) → CoversIf context marks (table_here tables context marks)
unfolding table_here
table_covers tables context [] = tt
table_covers tables context (word ∷ marks) =
    unless (not context.in_angles || not (is_plain word.piece) || is_name word.piece) context (word ∷ marks)
    (text_change context word (word ∷ marks) (replaced_by (new_name tables word.piece) 1 reason.TableName))
    (of_text context word (word ∷ marks) (replaced_by (new_name tables word.piece) 1 reason.TableName) (is_first word marks)
    (stands_for (new_name tables word.piece) 1 reason.TableName (omega arith)))

pub value_covers : (given : Given) (known : Known) (context : Context) (marks : List Mark) → CoversIf context marks (value_here given known context marks)
unfolding value_here
value_covers given known context marks =
    first_covers context marks (table_here known.tables context marks)
    (first_found (given_here given known context marks) (ports_here given context marks))
    (table_covers known.tables context marks)
    (first_covers context marks (given_here given known context marks) (ports_here given context marks)
    (given_covers given known context marks) (ports_cover given context marks))

stands_for_use : (is_written : Bool) (text : Option Text) → StandsForSome (replaced_if is_written text)
stands_for_use is_written None = tt
stands_for_use is_written (Some text) =
    either StandsForSome (length text.reasons == 0 && not is_written) None (Some (record { count = 1; text = text; reason = reason.Macro })) tt
    (omega arith)

stands_for_value : (given : Given) (known : Known) (context : Context) (value : List ℕ) (behind : List Mark)
    → StandsForSome (macro_replaced given known context value behind)
stands_for_value given known context value behind =
    let is_written = is_written_out context behind in
    let text = macro_text given known context value in
    either StandsForSome (nat_lt known.left (length value)) None (replaced_if is_written text) tt (stands_for_use is_written text)

of_use : (value : Option (List ℕ)) (given : Given) (known : Known) (context : Context) (word : Mark) (behind : List Mark)
    → CoversIf context (word ∷ behind) (macro_by value given known context word behind)
of_use None given known context word behind = tt
of_use (Some value) given known context word behind =
    of_text context word (word ∷ behind) (macro_replaced given known context value behind) (is_first word behind)
    (stands_for_value given known context value behind)

pub macro_covers : (given : Given) (known : Known) (context : Context) (marks : List Mark) → CoversIf context marks (macro_here given known context marks)
unfolding macro_here
macro_covers given known context [] = tt
macro_covers given known context (word ∷ marks) = of_use (used_value known.macros word.piece) given known context word marks

-- ---- files of tables

of_file : (found : Option (ℕ × Phrase)) (given : Given) (known : Known) (context : Context) (name : List ℕ) (marks : List Mark) → Counted found
    → CoversIf context marks (file_by found given known context name marks)
of_file None given known context name [] some = tt
of_file None given known context name (word ∷ marks) some = tt
of_file (Some found) given known context name [] some = tt
of_file (Some found) given known context name (word ∷ marks) some =
    let text = Some (record { count = found.0; text = entries_text given known context name; reason = reason.TableFile }) in
    let change = change_of context word (word ∷ marks) found.0 found.1 in
    unless (length (texts_of given subject.Table (name ++ [])) == 0) context (word ∷ marks)
    (if context.has_file then change else text_change context word (word ∷ marks) text)
    (either (CoversIf context (word ∷ marks)) context.has_file change (text_change context word (word ∷ marks) text)
    (of_change context word (word ∷ marks) found.0 found.1 (is_first word marks) some.0 (some.1 word.piece))
    (of_text context word (word ∷ marks) text (is_first word marks) some.0))

pub file_covers : (given : Given) (known : Known) (context : Context) (statement marks : List Mark)
    → CoversIf context marks (file_here given known context statement marks)
unfolding file_here
file_covers given known context statement marks =
    unless (not (is_table_statement context.within) || context.in_braces) context marks
    (file_by (file_phrase_at marks) given known context (table_named statement) marks)
    (of_file (file_phrase_at marks) given known context (table_named statement) marks (file_counted marks))

-- ---- targets

-- an address stands for one mark at least
abbrev pub IsOfSome : Option First → Type 0
IsOfSome None = ⊤
IsOfSome (Some first) = 1 ≤ first.count

of_network : (word : List ℕ) → IsOfSome (first_of_network word)
of_network word =
    either IsOfSome (is_network word) (Some (record { count = 1; address = one_address word })) None (omega arith) tt

unless_none : (test : Bool) (len : ℕ) (address : List ℕ) → (test ≡ false → 1 ≤ len)
    → IsOfSome (if test then None else Some (record { count = len; address = address }))
unless_none true len address some = tt
unless_none false len address some = some refl

of_address : (known : Known) (marks : List Mark) → IsOfSome (first_address known marks)
unfolding first_address
of_address known [] = tt
of_address known (word ∷ marks) =
    let len = list_from 0 (word ∷ marks) in
    let list = if len == 0 then None else Some (record { count = len; address = first_element known marks }) in
    either IsOfSome (not (is (codes "{") word)) (first_of_network word.piece) list (of_network word.piece)
    (unless_none (len == 0) len (first_element known marks) (some_if len))

of_one : (count : ℕ) (found : Option First) → IsOfSome (as_one count found)
of_one count None = tt
of_one count (Some found) = unless_none (not (found.count == count)) 1 found.address (λ is. omega arith)

of_first : (value : Option (List ℕ)) (known : Known) (marks : List Mark) → IsOfSome (first_by value known marks)
unfolding first_of_value
of_first (Some value) known words = of_one (length (marks value)) (first_address known (marks value))
of_first None known marks = of_address known marks

target_is_of_some : (known : Known) (marks : List Mark) → IsOfSome (first_target known marks)
unfolding first_target
target_is_of_some known [] = tt
target_is_of_some known (word ∷ marks) = of_first (value_within known known.left (word ∷ marks)) known (word ∷ marks)

of_target : (first : Option First) (given : Given) (known : Known) (context : Context) (marks : List Mark) → IsOfSome first
    → CoversIf context marks (target_by first given known context marks)
of_target None given known context [] some = tt
of_target None given known context (word ∷ marks) some = tt
of_target (Some first) given known context [] some = tt
of_target (Some first) given known context (word ∷ marks) some =
    of_text context word (word ∷ marks)
    (Some (record { count = first.count; text = value_text given known context first.address; reason = reason.Pool }))
    (is_first word marks) some

pub target_covers : (given : Given) (known : Known) (context : Context) (marks : List Mark)
    → CoversIf context marks (target_here given known context marks)
unfolding target_here
target_covers given known context marks =
    unless (not (is_rule context.within) || not (says_target context.says) || context.in_braces) context marks
    (target_by (first_target known marks) given known context marks)
    (of_target (first_target known marks) given known context marks (target_is_of_some known marks))
