-- A ruleset text as statements.
use Rattle.std.specs.Prelude.{◌≡◌, ◌≢◌, ℕ, Bool, true, false, not, if◌then◌else◌, List, [], ◌∷◌, ◌++◌, Option, Some, None, Result, Ok, Err, codes}
use Rattle.pfr_words.specs.declared.word.Word.{Word}
use Rattle.pfr_words.specs.Words.{words}
use Rattle.pfr_words.specs.Names.{is_among}
use Rattle.pfr_terms.specs.declared.error.ConfError.{ConfError}
use Rattle.pfr_terms.specs.declared.error.ConfErrorKind.TheVariants.{OutOfOrder, Memory}
use Rattle.pfr_terms.specs.Input.{Input, Outcome, Parser, ◌>>=◌, pure, faulty, loop, start, taken, is_done, line_ahead, plain_ahead, sees_word, eat_word}
use Rattle.pfr_conf.specs.declared.statement.Section.{Section}
use Rattle.pfr_conf.specs.declared.statement.Section.TheVariants as section
use Rattle.pfr_conf.specs.declared.statement.Statement.{Statement}
use Rattle.pfr_conf.specs.declared.statement.Statement.TheVariants as s
use Rattle.pfr_conf.specs.declared.statement.Statements as S
use Rattle.pfr_conf.specs.Policies.{end_of_line}
use Rattle.pfr_conf.specs.Macros.{macro_definition}
use Rattle.pfr_conf.specs.Tables.{table_definition}
use Rattle.pfr_conf.specs.Options.{set_option}
use Rattle.pfr_conf.specs.Anchors.{statement, blank_lines}
use Rattle.pfr_conf.specs.Translations.{translation_statement}

-- options stand before all rules
abbrev pub may_set : Section → Bool
may_set section.Options = true
may_set section.Translation = false
may_set section.Filter = false

-- translation rules stand before filter rules
abbrev pub may_translate : Section → Bool
may_translate section.Options = true
may_translate section.Translation = true
may_translate section.Filter = false

-- the words that begin a filter rule or an anchor
abbrev pub words_of_filters : List (List ℕ)
words_of_filters = codes "pass" ∷ codes "block" ∷ codes "anchor" ∷ []

-- the words that begin a translation rule, or an anchor of such rules
abbrev pub words_of_translations : List (List ℕ)
words_of_translations =
    codes "nat" ∷ codes "rdr" ∷ codes "binat" ∷ codes "no"
    ∷ codes "nat-anchor" ∷ codes "rdr-anchor" ∷ codes "binat-anchor" ∷ []

unfoldable pub begins_filter : Option (List ℕ) → Bool
begins_filter None = false
begins_filter (Some word) = is_among words_of_filters word

unfoldable pub begins_translation : Option (List ℕ) → Bool
begins_translation None = false
begins_translation (Some word) = is_among words_of_translations word

-- how far the ruleset has come, and its statements up to there
abbrev pub Lines : Type 0
Lines = Section × List Statement

-- what a function promises that reads and adds to what was found before
abbrev pub ReadsOnto : {A B : Type 0} → Outcome (A × B) → Result A ConfError → B → Input → Type 0
ReadsOnto outcome (Ok a) found new = outcome ≡ Ok ((a, found), new)
ReadsOnto outcome (Err e) found new = e.kind ≢ Memory → outcome ≡ Err e

unfoldable pub filter_statement : List Statement → Parser Lines
filter_statement found = do
  rule ← statement 16
  pure (section.Filter, found ++ s.Filter rule ∷ [])

unfoldable pub table_statement : ℕ → Lines → Parser Lines
table_statement line so_far = do
  table ← table_definition line
  pure (so_far.0, so_far.1 ++ s.Table table ∷ [])

unfoldable pub macro_statement : Lines → Parser Lines
macro_statement so_far = do
  definition ← macro_definition
  pure (so_far.0, so_far.1 ++ s.Macro definition ∷ [])

unfoldable pub rule_to_translate : List Statement → Parser Lines
rule_to_translate found = do
  rule ← translation_statement
  pure (section.Translation, found ++ s.Translation rule ∷ [])

unfoldable pub translation_line : Lines → Parser Lines
translation_line so_far = λ i. if may_translate so_far.0 then rule_to_translate so_far.1 i else faulty OutOfOrder i

abbrev pub translation_or_macro : Lines → Parser Lines
translation_or_macro so_far = λ i. if begins_translation (plain_ahead i) then translation_line so_far i else macro_statement so_far i

abbrev pub definition : Lines → ℕ → Parser Lines
definition so_far line = do
  is_table ← eat_word (codes "table")
  if is_table then table_statement line so_far else translation_or_macro so_far

unfoldable pub rule_or_definition : Lines → Parser Lines
rule_or_definition so_far = λ i. if begins_filter (plain_ahead i) then filter_statement so_far.1 i else definition so_far (line_ahead i) i

unfoldable pub set_statement : Lines → Parser Lines
set_statement so_far = do
  _ ← taken
  option ← set_option
  pure (so_far.0, so_far.1 ++ s.Option option ∷ [])

-- a statement more, and how far the ruleset has come with it
unfoldable pub any_statement : Lines → Parser Lines
any_statement so_far = λ i.
    if not (sees_word (codes "set") i) then rule_or_definition so_far i
    else if may_set so_far.0 then set_statement so_far i
    else faulty OutOfOrder i

abbrev pub text_line : (Lines → Parser (List Statement)) → Lines → Parser (List Statement)
text_line more so_far = do
  _ ← blank_lines
  λ i. if is_done i then pure so_far.1 i else (do
    found ← any_statement so_far
    _ ← end_of_line
    more found) i

-- the statements, one to a line
abbrev pub lines : Parser (List Statement)
lines = loop text_line (section.Options, [])

abbrev pub whole : Outcome (List Statement) → Result S.Statements ConfError
whole (Ok p) = Ok (record { statements = p.0 })
whole (Err e) = Err e

unfoldable pub statements_in : List Word → Result S.Statements ConfError
statements_in words = whole (lines (start words))

-- the statements of a text, or its first fault
unfoldable pub statements_of : List ℕ → Result S.Statements ConfError
statements_of text = statements_in (words text)
