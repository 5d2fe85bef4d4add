-- What all statements keep up of the translation rules, if each translation rule does.
use Rattle.std.proofs.Common.{◌≡◌, ℕ, List, [], ◌∷◌, Contains, Option, Some, None, Result, Ok, Err, refl, sym, subst, arith}
use Rattle.std.proofs.lemmas.List.Elements.{Contains-append_right}
use Rattle.pfr_ruleset.specs.declared.interface.Interface.{Interface}
use Rattle.pfr_ruleset.specs.Places.{joined}
use Rattle.pfr_ruleset.specs.Translations.{no_translations}
use Rattle.pfr_ruleset.specs.declared.ruleset.Ruleset as R
use Rattle.pfr_ruleset.specs.declared.translations.Translations.{Translations}
use Rattle.pfr_terms.specs.declared.error.ConfError.{ConfError}
use Rattle.pfr_conf.specs.declared.anchor.FilterStatement.{FilterStatement}
use Rattle.pfr_conf.specs.declared.statement.Statement.{Statement}
use Rattle.pfr_conf.specs.declared.statement.Statement.TheVariants as s
use Rattle.pfr_conf.specs.declared.statement.Statements as S
use Rattle.pfr_conf.specs.declared.translation.TranslationRule.{TranslationRule}
use Rattle.pfr_conf.specs.declared.translation.TranslationStatement.{TranslationStatement}
use Rattle.pfr_conf.specs.declared.translation.TranslationStatement.TheVariants as t
use Rattle.pfr_expand.specs.declared.body.Body.{Body}
use Rattle.pfr_expand.specs.declared.expansion.Work.{Work}
use Rattle.pfr_expand.specs.Bodies.{empty_body, statement as filter_statement}
use Rattle.pfr_expand.specs.Rulesets.{and_more, expanded, expanded_from, filter_by, filter_if, line_of, ruleset_in, setting_of, started, table_names, with_filter, with_statement, with_translations}
use Rattle.pfr_expand.proofs.RulesetLemmas.{Stays, macro_stays, option_stays, table_stays}
use Rattle.pfr_expand.proofs.TranslatedLemmas.{IsTranslated, translated_by}

-- ---- one statement

-- something is true of the translation rules of a ruleset on its way, and of the next rule's number
abbrev pub Stands : (ℕ → Translations → Type 0) → Work → Type 0
Stands P work = P work.translations work.flat.translations

-- each translation rule of these statements keeps it up
abbrev pub EachKeeps : (ℕ → Translations → Type 0) → List Statement → Type 0
EachKeeps P statements = (rule : TranslationRule) (work next : Work) → Contains statements (s.Translation (t.Rule rule)) → IsTranslated rule work next → Stands P work → Stands P next

translations_keep : (P : ℕ → Translations → Type 0) (statements : List Statement) → EachKeeps P statements → (found : TranslationStatement) (work next : Work) → Contains statements (s.Translation found) → with_translations found work ≡ Ok next → Stands P work → Stands P next
translations_keep P statements each (t.Anchor found name) work next there is stands =
    let same : work ≡ next = cc is in
    subst (Stands P) same stands
translations_keep P statements each (t.Rule rule) work next there is stands = each rule work next there (translated_by rule work next is) stands

filter_keeps : (P : ℕ → Translations → Type 0) (x : FilterStatement) (work next : Work) → with_filter x work ≡ Ok next → Stands P work → Stands P next
unfolding with_filter
filter_keeps P x work next is stands = by_body (filter_statement 16 work.scope (setting_of work (line_of x)) x (empty_body work.flat.labels)) is
  where
    by_fault : (body : Body) (fault : Option ConfError) → filter_if work body fault ≡ Ok next → Stands P next
    by_fault body (Some e) is = absurd (cc is)
    by_fault body None is =
        let same : record work { flat = record work.flat { filter = joined work.flat.filter body.rules body.anchors; labels = body.labels } } ≡ next = cc is in
        subst (Stands P) same stands

    by_body : (found : Result Body ConfError) → filter_by work found ≡ Ok next → Stands P next
    by_body (Err e) is = absurd (cc is)
    by_body (Ok body) is = by_fault body body.fault is

stays_keep : (P : ℕ → Translations → Type 0) (work next : Work) → Stays work next → Stands P work → Stands P next
stays_keep P work next stays stands = subst (λ (number : ℕ). P number next.flat.translations) (sym stays.count) (subst (P work.translations) (sym stays.translations) stands)

statement_keeps : (P : ℕ → Translations → Type 0) (statements : List Statement) → EachKeeps P statements → (x : Statement) (work next : Work) → Contains statements x → with_statement x work ≡ Ok next → Stands P work → Stands P next
unfolding with_statement
statement_keeps P statements each (s.Macro d) work next there is = stays_keep P work next (macro_stays d work next is)
statement_keeps P statements each (s.Table d) work next there is = stays_keep P work next (table_stays d work next is)
statement_keeps P statements each (s.Option option) work next there is = stays_keep P work next (option_stays option work next is)
statement_keeps P statements each (s.Translation found) work next there is = translations_keep P statements each found work next there is
statement_keeps P statements each (s.Filter x) work next there is = filter_keeps P x work next is

-- ---- all statements

all_keep : (P : ℕ → Translations → Type 0) (statements : List Statement) → EachKeeps P statements → (xs : List Statement) → ((x : Statement) → Contains xs x → Contains statements x) → (work next : Work) → expanded_from work xs ≡ Ok next → Stands P work → Stands P next
all_keep P statements each [] there work next is stands =
    let same : work ≡ next = cc is in
    subst (Stands P) same stands
all_keep P statements each (x ∷ xs) there work next is stands = by_first (λ between. all_keep P statements each xs (λ y among. there y (Contains-append_right (x ∷ []) xs y among)) between next) (with_statement x work) refl is
  where
    by_first : ((between : Work) → expanded_from between xs ≡ Ok next → Stands P between → Stands P next) → (found : Result Work ConfError) → with_statement x work ≡ found → and_more found (λ w. expanded_from w xs) ≡ Ok next → Stands P next
    by_first others (Err e) first_is is = absurd (cc is)
    by_first others (Ok between) first_is is = others between is (statement_keeps P statements each x work between (there x (0, omega arith, refl)) first_is stands)

-- what is true of no translation rules, and is kept up by each, is true of those of a ruleset
pub all_stand : (P : ℕ → Translations → Type 0) (statements : S.Statements) (interfaces : List Interface) (r : R.Ruleset) → EachKeeps P statements.statements → P 0 no_translations → expanded statements interfaces ≡ Ok r → (number : ℕ) × P number r.translations
unfolding expanded
all_stand P statements interfaces r each none is = by_work (expanded_from (started interfaces (table_names statements.statements)) statements.statements) refl is
  where
    by_work : (found : Result Work ConfError) → expanded_from (started interfaces (table_names statements.statements)) statements.statements ≡ found → ruleset_in found ≡ Ok r → (number : ℕ) × P number r.translations
    by_work (Err e) work_is is = absurd (cc is)
    by_work (Ok work) work_is is =
        let same : work.flat ≡ r = cc is in
        let all = all_keep P statements.statements each statements.statements (λ x there. there) (started interfaces (table_names statements.statements)) work work_is none in
        (work.translations, subst (λ (r : R.Ruleset). P work.translations r.translations) same all)
