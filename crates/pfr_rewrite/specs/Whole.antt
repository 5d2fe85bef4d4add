-- What is rewritten of a whole text.
use Rattle.std.specs.Prelude.{ℕ, zero, suc, if◌then◌else◌, List, [], ◌∷◌, ◌++◌, Option, None}
use Rattle.pfr_given.specs.declared.entry.Given.{Given}
use Rattle.pfr_marks.specs.Braces.{are_closed}
use Rattle.pfr_marks.specs.Marks.{beginning, marks}
use Rattle.pfr_marks.specs.declared.mark.Mark.{Mark}
use Rattle.pfr_phrases.specs.Changing.{change_at, change_in, first_found, passed_by}
use Rattle.pfr_phrases.specs.Contexts.{beginning_at, context_behind, is_nothing}
use Rattle.pfr_phrases.specs.declared.change.Change.{Change}
use Rattle.pfr_phrases.specs.declared.change.Found.{Found}
use Rattle.pfr_phrases.specs.declared.context.Context.{Context}
use Rattle.pfr_phrases.specs.declared.context.Within.{Within}
use Rattle.pfr_phrases.specs.declared.context.Within.TheVariants as within
use Rattle.pfr_spelling.specs.Known.{known_behind}
use Rattle.pfr_spelling.specs.Replacing.{file_here, macro_here, value_here}
use Rattle.pfr_spelling.specs.Tables.{tables_from}
use Rattle.pfr_spelling.specs.Targets.{target_here}
use Rattle.pfr_spelling.specs.declared.known.Known.{Known}
use Rattle.pfr_rewrite.specs.Antispoof.{antispoof_here}
use Rattle.pfr_rewrite.specs.Unseen.{element_here, rule_here}

-- what is rewritten in a statement, by what is known beside it
unfoldable pub known_word : Given → Known → Context → (statement marks : List Mark) → Option Found
known_word given known context statement marks =
    first_found (target_here given known context marks)
    (first_found (file_here given known context statement marks)
    (first_found (value_here given known context marks)
    (first_found (element_here known context marks) (macro_here given known context marks))))

-- a whole statement, by what is known beside it
unfoldable pub statement_here : Given → Known → Context → List Mark → Option Found
statement_here given known context marks = first_found (antispoof_here given known context marks) (rule_here known marks)

abbrev pub known_within : Within → Given → Known → Context → (statement marks : List Mark) → Option Found
known_within within.Nothing given known context statement marks = statement_here given known context marks
known_within within.Other given known context statement marks = None
known_within within.Rule given known context statement marks = known_word given known context statement marks
known_within within.Anchor given known context statement marks = known_word given known context statement marks
known_within within.Table given known context statement marks = known_word given known context statement marks
known_within within.Setting given known context statement marks = known_word given known context statement marks

unfoldable pub known_here : Given → Known → Context → (statement marks : List Mark) → Option Found
known_here given known context statement marks = known_within context.within given known context statement marks

-- what is rewritten at the front of marks: by what is known beside the statement, or by its words alone
unfoldable pub found_here : Given → Known → Context → (statement marks : List Mark) → Option Found
found_here given known context statement marks = first_found (known_here given known context statement marks) (change_at context marks)

-- ---- one mark after the other

-- at the first of these marks, if the first `passed` belong to a change that was found before
abbrev pub changes_at : Given → Known → Context → ℕ → (statement marks : List Mark) → List Change
changes_at given known context zero statement marks = change_in (found_here given known context statement marks)
changes_at given known context (suc passed) statement marks = []

abbrev pub passed_behind : Given → Known → Context → ℕ → (statement marks : List Mark) → ℕ
passed_behind given known context zero statement marks = passed_by (found_here given known context statement marks)
passed_behind given known context (suc passed) statement marks = passed

-- where a mark's statement begins
abbrev pub begin_at : Context → (before here : ℕ) → ℕ
begin_at context before here = if is_nothing context.within then here else before

-- the same as the marks from there on
abbrev pub statement_at : Context → (before here : List Mark) → List Mark
statement_at context before here = if is_nothing context.within then here else before

abbrev pub changes_from : Given → Known → Context → ℕ → (statement marks : List Mark) → List Change
changes_from given known context passed statement [] = []
changes_from given known context passed statement (mark ∷ marks) =
    let here = statement_at context statement (mark ∷ marks) in
    changes_at given known context passed here (mark ∷ marks)
    ++ changes_from given (known_behind known context (mark ∷ marks)) (context_behind context (mark ∷ marks))
    (passed_behind given known context passed here (mark ∷ marks)) here marks

abbrev pub before : Context
before = beginning_at beginning

-- at most 4 MiB of macros' values are read
abbrev pub known_before : (own : List (List ℕ)) → List Mark → Known
known_before own marks = record { own = own; tables = tables_from [] marks; macros = []; left = 4194304 }

-- what is rewritten of a text for interfaces of these names, from its beginning to its end: nothing if a brace isn't
-- closed, or closes nothing
unfoldable pub changes : (text : List ℕ) → (own : List (List ℕ)) → Given → List Change
changes text own given =
    if are_closed (marks text) then changes_from given (known_before own (marks text)) before 0 (marks text) (marks text) else []
