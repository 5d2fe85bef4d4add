-- The first table of a ruleset is that of the interfaces' addresses.
use Rattle.std.proofs.Common.{◌≡◌, ◌+◌, ◌||◌, ℕ, Bool, true, false, if◌then◌else◌, nat_lt, List, [], ◌∷◌, ◌++◌, length, Option, Some, None, Result}
use Rattle.std.proofs.Common.{Ok, Err, refl, ap, subst}
use Rattle.pfr_ruleset.specs.declared.interface.Interface.{Interface}
use Rattle.pfr_ruleset.specs.declared.options.Options as O
use Rattle.pfr_ruleset.specs.declared.ruleset.Ruleset as R
use Rattle.pfr_ruleset.specs.declared.table.Entry.{Entry}
use Rattle.pfr_ruleset.specs.declared.translations.Translations.{Translations}
use Rattle.pfr_ruleset.specs.Interfaces.{own_table}
use Rattle.pfr_terms.specs.declared.error.ConfError.{ConfError}
use Rattle.pfr_terms.specs.declared.error.ConfErrorKind.TheVariants.{TooMany}
use Rattle.pfr_conf.specs.declared.anchor.FilterStatement.{FilterStatement}
use Rattle.pfr_conf.specs.declared.macros.MacroDefinition.{MacroDefinition}
use Rattle.pfr_conf.specs.declared.options.SetOption.{SetOption}
use Rattle.pfr_conf.specs.declared.statement.Statement.{Statement}
use Rattle.pfr_conf.specs.declared.statement.Statement.TheVariants as s
use Rattle.pfr_conf.specs.declared.statement.Statements as S
use Rattle.pfr_conf.specs.declared.table.TableDefinition.{TableDefinition}
use Rattle.pfr_conf.specs.declared.translation.TranslationRule.{TranslationRule}
use Rattle.pfr_conf.specs.declared.translation.TranslationStatement.{TranslationStatement}
use Rattle.pfr_conf.specs.declared.translation.TranslationStatement.TheVariants as t
use Rattle.pfr_conf.specs.Statements.{statements_of}
use Rattle.pfr_elements.specs.declared.value.Draft.{Draft}
use Rattle.pfr_elements.specs.Elements.{most_elements}
use Rattle.pfr_elements.specs.Values.{begun}
use Rattle.pfr_flat.specs.declared.lists.Lists as L
use Rattle.pfr_flat.specs.Counts.{counted, too_many}
use Rattle.pfr_flat.specs.Lists.{choices_or_fault}
use Rattle.pfr_expand.specs.declared.body.Body.{Body}
use Rattle.pfr_expand.specs.declared.expansion.Work.{Work}
use Rattle.pfr_expand.specs.declared.tables.Filling.{Filling}
use Rattle.pfr_expand.specs.Bodies.{empty_body, statement as filter_statement}
use Rattle.pfr_expand.specs.Laws.{OwnAddressesAreFirst}
use Rattle.pfr_expand.specs.Options.{with_option}
use Rattle.pfr_expand.specs.Rulesets.{and_more, clash_of, expanded, expanded_from, filter_by, filter_if, is_defined, line_of, macro_by, option_by}
use Rattle.pfr_expand.specs.Rulesets.{pieces_from, ruleset_in, setting_of, started, table_by, table_names, translated, translation_by, used_in}
use Rattle.pfr_expand.specs.Rulesets.{with_definition, with_filter, with_set, with_statement, with_table, with_translation, with_translations}
use Rattle.pfr_expand.specs.Tables.{filled, unfilled}
use Rattle.pfr_expand.specs.Texts.{expanded_by, ruleset_of}
use Rattle.pfr_expand.specs.Translations.{translation_lists, with_choices}

module _ (interfaces : List Interface) where
  -- ---- a ruleset on its way

  -- it is for these interfaces, and its first table is that of their addresses
  abbrev IsFor : R.Ruleset → Type 0
  IsFor r = (r.interfaces ≡ interfaces) × (rest : List (List Entry)) × (r.tables ≡ own_table interfaces ∷ rest)

  -- if so, that is true of what becomes of it
  abbrev Keeps : Work → Result Work ConfError → Type 0
  Keeps work found = (next : Work) → found ≡ Ok next → IsFor work.flat → IsFor next.flat

  refused : (work : Work) (e : ConfError) → Keeps work (Err e)
  refused work e next is own = absurd (cc is)

  found_keeps : (work found : Work) → (IsFor work.flat → IsFor found.flat) → Keeps work (Ok found)
  found_keeps work found keeps next is own = (let same : found ≡ next = cc is in subst (λ (w : Work). IsFor w.flat) same (keeps own))

  -- ---- macros, tables and options

  macro_keeps : (d : MacroDefinition) (work : Work) → Keeps work (with_definition d work)
  unfolding with_definition
  macro_keeps d work = by_value (pieces_from work.scope.macros (begun work.scope.macros) d.pieces)
    where
      by_value : (found : Result Draft ConfError) → Keeps work (macro_by work d.name found)
      by_value (Err e) = refused work e
      by_value (Ok draft) = found_keeps work _ (λ own. own)

  -- one more table stands behind those that there were
  more_tables : (work : Work) (table : List Entry) → IsFor work.flat → IsFor (record work.flat { tables = work.flat.tables ++ table ∷ [] })
  more_tables work table own = (own.0, own.1 ++ table ∷ [], ap (λ (tables : List (List Entry)). tables ++ table ∷ []) own.2)

  table_keeps : (d : TableDefinition) (work : Work) → Keeps work (with_table d work)
  unfolding with_table
  table_keeps d work = by_count (nat_lt most_elements filling.found.count || nat_lt 65536 (work.entries + filling.found.count))
    where
      filling : Filling
      filling = filled work.scope (unfilled (clash_of d.name (is_defined work.scope d.name))) d.entries

      by_fault : (fault : Option ConfError) → Keeps work (table_by work d filling fault)
      by_fault (Some e) = refused work e
      by_fault None = found_keeps work _ (more_tables work filling.table)

      by_count : (large : Bool) → Keeps work (if large then Err (too_many d.line) else table_by work d filling filling.found.fault)
      by_count true = refused work (too_many d.line)
      by_count false = by_fault filling.found.fault

  option_keeps : (option : SetOption) (work : Work) → Keeps work (with_set option work)
  unfolding with_set
  option_keeps option work = by_options (with_option work.scope option work.flat.options)
    where
      by_options : (found : Result O.Options ConfError) → Keeps work (option_by work found)
      by_options (Err e) = refused work e
      by_options (Ok options) = found_keeps work _ (λ own. own)

  -- ---- translation rules

  translation_keeps : (rule : TranslationRule) (work : Work) → Keeps work (with_translation rule work)
  unfolding with_translation
  translation_keeps rule work = by_count (counted (used_in work) rule.line lists 0 1)
    where
      lists : L.Lists
      lists = translation_lists work.scope rule

      by_rules : (count : ℕ) (found : Result Translations ConfError) → Keeps work (translated work count found)
      by_rules count (Err e) = refused work e
      by_rules count (Ok all) = found_keeps work _ (λ own. own)

      by_count : (found : Result ℕ ConfError) → Keeps work (translation_by work rule lists found)
      by_count (Err e) = refused work e
      by_count (Ok count) = by_rules count (with_choices work.scope work.translations rule (choices_or_fault lists) work.flat.translations)

  translations_keep : (found : TranslationStatement) (work : Work) → Keeps work (with_translations found work)
  translations_keep (t.Anchor found name) work = found_keeps work work (λ own. own)
  translations_keep (t.Rule rule) work = translation_keeps rule work

  -- ---- filter rules

  filter_keeps : (x : FilterStatement) (work : Work) → Keeps work (with_filter x work)
  unfolding with_filter
  filter_keeps x work = by_body (filter_statement 16 work.scope (setting_of work (line_of x)) x (empty_body work.flat.labels))
    where
      by_fault : (body : Body) (fault : Option ConfError) → Keeps work (filter_if work body fault)
      by_fault body (Some e) = refused work e
      by_fault body None = found_keeps work _ (λ own. own)

      by_body : (found : Result Body ConfError) → Keeps work (filter_by work found)
      by_body (Err e) = refused work e
      by_body (Ok body) = by_fault body body.fault

  -- ---- all statements

  statement_keeps : (x : Statement) (work : Work) → Keeps work (with_statement x work)
  unfolding with_statement
  statement_keeps (s.Macro d) work = macro_keeps d work
  statement_keeps (s.Table d) work = table_keeps d work
  statement_keeps (s.Option option) work = option_keeps option work
  statement_keeps (s.Translation found) work = translations_keep found work
  statement_keeps (s.Filter x) work = filter_keeps x work

  and_more_keeps : (work : Work) (found : Result Work ConfError) (more : Work → Result Work ConfError) → Keeps work found
      → ((between : Work) → Keeps between (more between)) → Keeps work (and_more found more)
  and_more_keeps work (Err e) more first others next is own = refused work e next is own
  and_more_keeps work (Ok between) more first others next is own = others between next is (first between refl own)

  all_keep : (xs : List Statement) (work : Work) → Keeps work (expanded_from work xs)
  all_keep [] work = found_keeps work work (λ own. own)
  all_keep (x ∷ xs) work =
      and_more_keeps work (with_statement x work) (λ w. expanded_from w xs) (statement_keeps x work) (λ between. all_keep xs between)

  -- before the first statement that table stands alone
  statements_have_own_table : (statements : S.Statements) (r : R.Ruleset) → expanded statements interfaces ≡ Ok r → IsFor r
  unfolding expanded
  statements_have_own_table statements r is = by_work (expanded_from work statements.statements) refl is
    where
      work : Work
      work = started interfaces (table_names statements.statements)

      by_work : (found : Result Work ConfError) → expanded_from work statements.statements ≡ found → ruleset_in found ≡ Ok r → IsFor r
      by_work (Err e) work_is is = absurd (cc is)
      by_work (Ok next) work_is is =
          let same : next.flat ≡ r = cc is in
          subst IsFor same (all_keep statements.statements work next work_is (refl, [], refl))

  text_for : (text : List ℕ) (r : R.Ruleset) → ruleset_of text interfaces ≡ Ok r → IsFor r
  unfolding ruleset_of
  text_for text r is = by_size (nat_lt 1048576 (length text)) is
    where
      too_long : Result R.Ruleset ConfError
      too_long = Err (record { line = 1; kind = TooMany })

      by_statements : (found : Result S.Statements ConfError) → expanded_by found interfaces ≡ Ok r → IsFor r
      by_statements (Err e) is = absurd (cc is)
      by_statements (Ok statements) is = statements_have_own_table statements r is

      by_size : (long : Bool) → (if long then too_long else expanded_by (statements_of text) interfaces) ≡ Ok r → IsFor r
      by_size true is = absurd (cc is)
      by_size false is = by_statements (statements_of text) is

pub text_has_own_table : OwnAddressesAreFirst
text_has_own_table text interfaces r is = text_for interfaces text r is
