-- The flat ruleset of statements, or the first fault of theirs.
use Rattle.std.specs.Prelude.{ℕ, ◌+◌, ◌||◌, Bool, true, false, nat_lt, if◌then◌else◌, List, [], ◌∷◌, ◌++◌, length, fold, min, Option, Some, None, Result, Ok, Err, codes}
use Rattle.pfr_ruleset.specs.declared.interface.Interface.{Interface}
use Rattle.pfr_ruleset.specs.Places.{joined}
use Rattle.pfr_ruleset.specs.declared.options.Options as O
use Rattle.pfr_ruleset.specs.declared.ruleset.Ruleset as R
use Rattle.pfr_ruleset.specs.Rulesets.{empty_ruleset}
use Rattle.pfr_ruleset.specs.declared.translations.Translations.{Translations}
use Rattle.pfr_terms.specs.declared.error.ConfError.{ConfError}
use Rattle.pfr_terms.specs.declared.name.Name.{Name}
use Rattle.pfr_conf.specs.declared.macros.Piece as P
use Rattle.pfr_conf.specs.declared.macros.Piece.TheVariants as p
use Rattle.pfr_conf.specs.declared.macros.MacroDefinition.{MacroDefinition}
use Rattle.pfr_conf.specs.declared.table.TableDefinition.{TableDefinition}
use Rattle.pfr_conf.specs.declared.options.SetOption.{SetOption}
use Rattle.pfr_conf.specs.declared.anchor.FilterStatement.{FilterStatement, out-FilterStatement}
use Rattle.pfr_conf.specs.declared.anchor.FilterStatement.TheOpen.{FilterStatement-F}
use Rattle.pfr_conf.specs.declared.translation.TranslationRule.{TranslationRule}
use Rattle.pfr_conf.specs.declared.translation.TranslationStatement.{TranslationStatement}
use Rattle.pfr_conf.specs.declared.translation.TranslationStatement.TheVariants as t
use Rattle.pfr_conf.specs.declared.statement.Statement.{Statement}
use Rattle.pfr_conf.specs.declared.statement.Statement.TheVariants as s
use Rattle.pfr_conf.specs.declared.statement.Statements as S
use Rattle.pfr_elements.specs.declared.scope.Scope.{Scope}
use Rattle.pfr_elements.specs.declared.macros.Macros.{Macros}
use Rattle.pfr_elements.specs.declared.definition.Taken.{Taken}
use Rattle.pfr_elements.specs.declared.value.Draft.{Draft}
use Rattle.pfr_elements.specs.Meanings.{with_macro}
use Rattle.pfr_elements.specs.Values.{taken_at, with_text, with_taken, begun, no_macros}
use Rattle.pfr_elements.specs.Names.{last_place}
use Rattle.pfr_elements.specs.Elements.{most_elements}
use Rattle.pfr_flat.specs.declared.lists.Lists as L
use Rattle.pfr_flat.specs.Counts.{counted, too_many}
use Rattle.pfr_flat.specs.Lists.{choices_or_fault}
use Rattle.pfr_expand.specs.declared.body.Setting.{Setting}
use Rattle.pfr_expand.specs.declared.body.Body.{Body}
use Rattle.pfr_expand.specs.declared.tables.Filling.{Filling}
use Rattle.pfr_expand.specs.declared.expansion.Work.{Work}
use Rattle.pfr_expand.specs.Bodies.{empty_body, statement as filter_statement}
use Rattle.pfr_expand.specs.Options.{with_option}
use Rattle.pfr_expand.specs.Translations.{translation_lists, with_choices}
use Rattle.pfr_expand.specs.Tables.{clash, filled, unfilled}

-- ---- macros

abbrev pub with_use : Draft → Result Taken ConfError → Result Draft ConfError
with_use draft (Ok taken) = Ok (with_taken taken draft)
with_use draft (Err e) = Err e

-- one more piece of a macro's value
abbrev pub with_piece : Macros → Draft → P.Piece → Result Draft ConfError
with_piece macros draft (p.Quoted name) = Ok (with_text name.text draft)
with_piece macros draft (p.Plain name) = Ok (with_text name.text draft)
with_piece macros draft (p.Macro found) = with_use draft (taken_at macros false found)

abbrev pub and_pieces : Result Draft ConfError → (Draft → Result Draft ConfError) → Result Draft ConfError
and_pieces (Ok draft) more = more draft
and_pieces (Err e) more = Err e

abbrev pub pieces_from : Macros → Draft → List P.Piece → Result Draft ConfError
pieces_from macros draft [] = Ok draft
pieces_from macros draft (x ∷ xs) = and_pieces (with_piece macros draft x) (λ d. pieces_from macros d xs)

abbrev pub macro_by : Work → Name → Result Draft ConfError → Result Work ConfError
macro_by work name (Ok draft) = Ok (record work { scope = with_macro name.text draft work.scope })
macro_by work name (Err e) = Err e

unfoldable pub with_definition : MacroDefinition → Work → Result Work ConfError
with_definition d work = macro_by work d.name (pieces_from work.scope.macros (begun work.scope.macros) d.pieces)

-- ---- tables

abbrev pub is_below : ℕ → Option ℕ → Bool
is_below defined None = false
is_below defined (Some place) = nat_lt place defined

-- whether a table of this name is defined already
abbrev pub is_defined : Scope → Name → Bool
is_defined scope name = is_below scope.defined (last_place name.text scope.tables)

abbrev pub clash_of : Name → Bool → Option ConfError
clash_of name true = Some (clash name.line)
clash_of name false = None

abbrev pub table_by : Work → TableDefinition → Filling → Option ConfError → Result Work ConfError
table_by work d filling (Some e) = Err e
table_by work d filling None = Ok (record work {
  scope = record work.scope { defined = length (work.flat.tables ++ filling.table ∷ []) };
  entries = work.entries + filling.found.count;
  flat = record work.flat { tables = work.flat.tables ++ filling.table ∷ [] };
})

abbrev pub counted_table : Work → TableDefinition → Filling → Result Work ConfError
counted_table work d filling =
    if nat_lt most_elements filling.found.count || nat_lt 65536 (work.entries + filling.found.count) then Err (too_many d.line)
    else table_by work d filling filling.found.fault

unfoldable pub with_table : TableDefinition → Work → Result Work ConfError
with_table d work =
    counted_table work d (filled work.scope (unfilled (clash_of d.name (is_defined work.scope d.name))) d.entries)

-- ---- options

abbrev pub option_by : Work → Result O.Options ConfError → Result Work ConfError
option_by work (Ok options) = Ok (record work { flat = record work.flat { options = options } })
option_by work (Err e) = Err e

unfoldable pub with_set : SetOption → Work → Result Work ConfError
with_set option work = option_by work (with_option work.scope option work.flat.options)

-- ---- filter rules

abbrev pub line_by : FilterStatement-F FilterStatement → ℕ
line_by (FilterStatement-F.Rule rule) = rule.line
line_by (FilterStatement-F.Anchor anchor body) = anchor.line

unfoldable pub line_of : FilterStatement → ℕ
line_of x = line_by (out-FilterStatement x)

-- how many rules there are; one more than there may be stands for itself and all larger numbers
abbrev pub used_in : Work → ℕ
used_in work = min (length work.flat.filter.rules + work.translations) 65537

abbrev pub setting_of : Work → ℕ → Setting
setting_of work line = record { block_policy = work.flat.options.block_policy; state_policy = work.flat.options.state_policy; used = used_in work; line = line }

abbrev pub filter_if : Work → Body → Option ConfError → Result Work ConfError
filter_if work body (Some e) = Err e
filter_if work body None = Ok (record work { flat = record work.flat { filter = joined work.flat.filter body.rules body.anchors; labels = body.labels } })

abbrev pub filter_by : Work → Result Body ConfError → Result Work ConfError
filter_by work (Ok body) = filter_if work body body.fault
filter_by work (Err e) = Err e

unfoldable pub with_filter : FilterStatement → Work → Result Work ConfError
with_filter x work = filter_by work (filter_statement 16 work.scope (setting_of work (line_of x)) x (empty_body work.flat.labels))

-- ---- translation rules

abbrev pub translated : Work → ℕ → Result Translations ConfError → Result Work ConfError
translated work count (Ok translations) = Ok (record work { translations = work.translations + count; flat = record work.flat { translations = translations } })
translated work count (Err e) = Err e

abbrev pub translation_by : Work → TranslationRule → L.Lists → Result ℕ ConfError → Result Work ConfError
translation_by work rule lists (Err e) = Err e
translation_by work rule lists (Ok count) = translated work count (with_choices work.scope work.translations rule (choices_or_fault lists) work.flat.translations)

abbrev pub translation_of : Work → TranslationRule → L.Lists → Result Work ConfError
translation_of work rule lists = translation_by work rule lists (counted (used_in work) rule.line lists 0 1)

-- a rule's number is how many translation rules of all kinds stand before it
unfoldable pub with_translation : TranslationRule → Work → Result Work ConfError
with_translation rule work = translation_of work rule (translation_lists work.scope rule)

-- an anchor of translation rules is empty
abbrev pub with_translations : TranslationStatement → Work → Result Work ConfError
with_translations (t.Anchor found name) work = Ok work
with_translations (t.Rule rule) work = with_translation rule work

-- ---- all statements

unfoldable pub with_statement : Statement → Work → Result Work ConfError
with_statement (s.Macro d) work = with_definition d work
with_statement (s.Table d) work = with_table d work
with_statement (s.Option option) work = with_set option work
with_statement (s.Translation found) work = with_translations found work
with_statement (s.Filter x) work = with_filter x work

abbrev pub and_more : Result Work ConfError → (Work → Result Work ConfError) → Result Work ConfError
and_more (Ok work) more = more work
and_more (Err e) more = Err e

abbrev pub expanded_from : Work → List Statement → Result Work ConfError
expanded_from work [] = Ok work
expanded_from work (x ∷ xs) = and_more (with_statement x work) (λ w. expanded_from w xs)

abbrev pub with_name : List (List ℕ) → List ℕ → Option ℕ → List (List ℕ)
with_name names name (Some place) = names
with_name names name None = names ++ name ∷ []

abbrev pub with_table_name : List (List ℕ) → Statement → List (List ℕ)
with_table_name names (s.Table d) = with_name names d.name.text (last_place d.name.text names)
with_table_name names other = names

-- the names of the tables that statements define, each once
-- behind that of the table of the interfaces' own addresses, which no text can write
abbrev pub table_names : List Statement → List (List ℕ)
table_names statements = fold with_table_name (codes "(self)" ∷ []) statements

-- before the first statement that table is defined alone
abbrev pub started : List Interface → List (List ℕ) → Work
started interfaces names = record {
  scope = record { interfaces = interfaces; macros = no_macros; tables = names; defined = 1 };
  entries = 0;
  translations = 0;
  flat = empty_ruleset interfaces;
}

abbrev pub ruleset_in : Result Work ConfError → Result R.Ruleset ConfError
ruleset_in (Ok work) = Ok work.flat
ruleset_in (Err e) = Err e

-- what the statements mean for the interfaces of a run
unfoldable pub expanded : S.Statements → List Interface → Result R.Ruleset ConfError
expanded statements interfaces = ruleset_in (expanded_from (started interfaces (table_names statements.statements)) statements.statements)
