-- The rules of a ruleset: of which statements those of the filter are, and how many there are of all.
use Rattle.std.proofs.Common.{◌≡◌, ◌≤◌, ◌+◌, ◌||◌, ℕ, suc, Bool, true, false, if◌then◌else◌, nat_lt, List, [], ◌∷◌, ◌++◌, length, min, Option, Some, None, Result, Ok, Err, append_assoc, append-nil, refl, sym, ap, ◌∙◌, subst, arith}
use Rattle.std.proofs.lemmas.List.{length-append}
use Rattle.pfr_ruleset.specs.declared.interface.Interface.{Interface}
use Rattle.pfr_ruleset.specs.declared.flat.FlatRule.{FlatRule}
use Rattle.pfr_ruleset.specs.declared.flat.PacketMatch.{PacketMatch}
use Rattle.pfr_ruleset.specs.declared.label.Label.{Label}
use Rattle.pfr_ruleset.specs.Places.{joined}
use Rattle.pfr_ruleset.specs.declared.options.Options as O
use Rattle.pfr_ruleset.specs.declared.ruleset.Ruleset as R
use Rattle.pfr_ruleset.specs.declared.translations.Translations.{Translations}
use Rattle.pfr_ruleset.specs.Rulesets.{counts}
use Rattle.pfr_terms.specs.declared.error.ConfError.{ConfError}
use Rattle.pfr_conf.specs.declared.anchor.FilterStatement.{FilterStatement}
use Rattle.pfr_conf.specs.declared.macros.MacroDefinition.{MacroDefinition}
use Rattle.pfr_conf.specs.declared.options.SetOption.{SetOption}
use Rattle.pfr_conf.specs.declared.statement.Statement.{Statement}
use Rattle.pfr_conf.specs.declared.statement.Statement.TheVariants as s
use Rattle.pfr_conf.specs.declared.statement.Statements as S
use Rattle.pfr_conf.specs.declared.table.TableDefinition.{TableDefinition}
use Rattle.pfr_conf.specs.declared.translation.TranslationRule.{TranslationRule}
use Rattle.pfr_conf.specs.declared.translation.TranslationStatement.{TranslationStatement}
use Rattle.pfr_conf.specs.declared.translation.TranslationStatement.TheVariants as t
use Rattle.pfr_elements.specs.declared.value.Draft.{Draft}
use Rattle.pfr_elements.specs.Elements.{most_elements}
use Rattle.pfr_elements.specs.Values.{begun}
use Rattle.pfr_flat.specs.Choices.{combinations}
use Rattle.pfr_flat.specs.Counts.{too_many}
use Rattle.pfr_flat.specs.Translations.{numbered}
use Rattle.pfr_expand.specs.declared.body.Body.{Body}
use Rattle.pfr_expand.specs.declared.expansion.Work.{Work}
use Rattle.pfr_expand.specs.declared.tables.Filling.{Filling}
use Rattle.pfr_expand.specs.declared.translation.Change.{Change}
use Rattle.pfr_expand.specs.declared.translation.Change.TheVariants as change
use Rattle.pfr_expand.specs.Bodies.{empty_body, statement as filter_statement}
use Rattle.pfr_expand.specs.Laws.{AreInTurn, AreOf, AreOfFilter}
use Rattle.pfr_expand.specs.Options.{with_option}
use Rattle.pfr_expand.specs.Rulesets.{and_more, clash_of, expanded, expanded_from, filter_by, filter_if, is_defined, line_of, macro_by, option_by, pieces_from, ruleset_in, setting_of, started, table_by, table_names, used_in, with_definition, with_filter, with_set, with_statement, with_table, with_translation, with_translations}
use Rattle.pfr_expand.specs.Tables.{filled, unfilled}
use Rattle.pfr_expand.specs.Translations.{with_rules}
use Rattle.pfr_expand.proofs.RuleLemmas.{Adds, Reach, reach_on, reach_themselves, statement_adds}
use Rattle.pfr_expand.proofs.TranslatedLemmas.{few_made, translated_by, within_all}

-- ---- a ruleset on its way

abbrev pub translation_count : Translations → ℕ
translation_count all = length all.nats + length all.rdrs + length all.binats

-- there are no more rules than there may be
pub record IsFew (work : Work) : Type 0 where
  pub all : length work.flat.filter.rules + work.translations ≤ 65536
  pub translations : translation_count work.flat.translations ≤ work.translations

-- rules of the filter behind those that there were, of what is said with all labels that come to be
pub record Advances (AreMade : List Label → List FlatRule → Type 0) (work next : Work) : Type 0 where
  pub own : List FlatRule
  pub rules : next.flat.filter.rules ≡ work.flat.filter.rules ++ own
  pub labels : Reach work.flat.labels next.flat.labels
  pub made : (all : List Label) → Reach next.flat.labels all → AreMade all own
  pub few : IsFew work → IsFew next

-- the rules stay as they are
pub record Stays (work next : Work) : Type 0 where
  pub rules : next.flat.filter.rules ≡ work.flat.filter.rules
  pub labels : next.flat.labels ≡ work.flat.labels
  pub count : next.translations ≡ work.translations
  pub translations : next.flat.translations ≡ work.flat.translations

stays_few : (work next : Work) → Stays work next → IsFew work → IsFew next
stays_few work next stays few =
    let all = few.all in
    let least = few.translations in
    let rules = ap (λ (rules : List FlatRule). length rules) stays.rules in
    let count = stays.count in
    let same = ap translation_count stays.translations in
    record { all = omega (arith, all, rules, count); translations = omega (arith, least, count, same) }

same_reach : (labels later : List Label) → later ≡ labels → Reach labels later
same_reach labels later is = subst (Reach labels) (sym is) (reach_themselves labels)

stays_advances : (work next : Work) → Stays work next → Advances (λ all rules. rules ≡ []) work next
stays_advances work next stays = record { own = []; rules = stays.rules ∙ sym (append-nil work.flat.filter.rules); labels = same_reach work.flat.labels next.flat.labels stays.labels; made = λ all behind. refl; few = stays_few work next stays }

-- ---- macros, tables and options

same_work : (work next : Work) (f : Work) → ◌≡◌ {A = Result Work ConfError} (Ok f) (Ok next) → Stays work f → Stays work next
same_work work next f is stays = (let same : f ≡ next = cc is in subst (Stays work) same stays)

pub macro_stays : (d : MacroDefinition) (work next : Work) → with_definition d work ≡ Ok next → Stays work next
unfolding with_definition
macro_stays d work next is = by_value (pieces_from work.scope.macros (begun work.scope.macros) d.pieces) is
  where
    by_value : (found : Result Draft ConfError) → macro_by work d.name found ≡ Ok next → Stays work next
    by_value (Err e) is = absurd (cc is)
    by_value (Ok draft) is = same_work work next _ is (record { rules = refl; labels = refl; count = refl; translations = refl })

abbrev filling_of : TableDefinition → Work → Filling
filling_of d work = filled work.scope (unfilled (clash_of d.name (is_defined work.scope d.name))) d.entries

pub table_stays : (d : TableDefinition) (work next : Work) → with_table d work ≡ Ok next → Stays work next
unfolding with_table
table_stays d work next is = by_count (nat_lt most_elements (filling_of d work).found.count || nat_lt 65536 (work.entries + (filling_of d work).found.count)) is
  where
    by_fault : (fault : Option ConfError) → table_by work d (filling_of d work) fault ≡ Ok next → Stays work next
    by_fault (Some e) is = absurd (cc is)
    by_fault None is = same_work work next _ is (record { rules = refl; labels = refl; count = refl; translations = refl })

    by_count : (large : Bool) → (if large then Err (too_many d.line) else table_by work d (filling_of d work) (filling_of d work).found.fault) ≡ Ok next → Stays work next
    by_count true is = absurd (cc is)
    by_count false is = by_fault (filling_of d work).found.fault is

pub option_stays : (option : SetOption) (work next : Work) → with_set option work ≡ Ok next → Stays work next
unfolding with_set
option_stays option work next is = by_options (with_option work.scope option work.flat.options) is
  where
    by_options : (found : Result O.Options ConfError) → option_by work found ≡ Ok next → Stays work next
    by_options (Err e) is = absurd (cc is)
    by_options (Ok options) is = same_work work next _ is (record { rules = refl; labels = refl; count = refl; translations = refl })

-- ---- translation rules

length_numbered : {A : Type 0} (number line : ℕ) (passes : Bool) (to : Option A) (matches : List PacketMatch) → length (numbered number line passes to matches) ≡ length matches
length_numbered number line passes to [] = refl
length_numbered number line passes to (m ∷ matches) = ap suc (length_numbered (suc number) line passes to matches)

rules_count : (number line : ℕ) (passes : Bool) (found : Change) (matches : List PacketMatch) (all : Translations) → translation_count (with_rules number line passes found matches all) ≡ translation_count all + length matches
rules_count number line passes (change.Nat to) matches all =
    let own = length_numbered number line passes to matches in
    let long = length-append all.nats (numbered number line passes to matches) in
    omega (arith, own, long)
rules_count number line passes (change.Rdr to) matches all =
    let own = length_numbered number line passes to matches in
    let long = length-append all.rdrs (numbered number line passes to matches) in
    omega (arith, own, long)
rules_count number line passes (change.Binat to) matches all =
    let own = length_numbered number line passes to matches in
    let long = length-append all.binats (numbered number line passes to matches) in
    omega (arith, own, long)

-- if the rules used, counted up to the limit, and `count` more are within the limit, so are all rules together
within_limit : (rules translations count : ℕ) → min (rules + translations) 65537 + count ≤ 65536 → rules + translations + count ≤ 65536
within_limit rules translations count few = omega (arith, few)

-- a translation rule makes none of the filter's
pub record Translates (work next : Work) : Type 0 where
  pub rules : next.flat.filter.rules ≡ work.flat.filter.rules
  pub labels : next.flat.labels ≡ work.flat.labels
  pub few : IsFew work → IsFew next

translation_translates : (rule : TranslationRule) (work next : Work) → with_translation rule work ≡ Ok next → Translates work next
translation_translates rule work next is =
    let made = translated_by rule work next is in
    let limit = within_limit (length work.flat.filter.rules) work.translations made.count (within_all rule work next made) in
    let few = few_made rule work next made in
    let long = rules_count work.translations rule.line rule.passes made.change (combinations made.choices) work.flat.translations in
    let filtered = ap (λ (rules : List FlatRule). length rules) made.filter in
    let taken = made.taken in
    let same = ap translation_count made.rules in
    record {
      rules = made.filter;
      labels = made.labels;
      few = λ before. (let least = before.translations in record { all = omega (arith, limit, filtered, taken); translations = omega (arith, least, few, long, taken, same) });
    }

translations_translate : (found : TranslationStatement) (work next : Work) → with_translations found work ≡ Ok next → Translates work next
translations_translate (t.Anchor found name) work next is =
    let same : work ≡ next = cc is in
    subst (Translates work) same (record { rules = refl; labels = refl; few = λ before. before })
translations_translate (t.Rule rule) work next is = translation_translates rule work next is

-- ---- filter rules

filter_advances : (x : FilterStatement) (work next : Work) → with_filter x work ≡ Ok next → Advances (λ all. AreOfFilter all 16 x) work next
unfolding with_filter
filter_advances x work next is = by_body (filter_statement 16 work.scope (setting_of work (line_of x)) x (empty_body work.flat.labels)) refl is
  where
    by_fault : (body : Body) → Adds (used_in work) (λ all. AreOfFilter all 16 x) (empty_body work.flat.labels) body → (fault : Option ConfError) → body.fault ≡ fault → filter_if work body fault ≡ Ok next → Advances (λ all. AreOfFilter all 16 x) work next
    by_fault body adds (Some e) fault_is is = absurd (cc is)
    by_fault body adds None fault_is is =
        let own = adds.grows fault_is in
        let own_few = own.few in
        let long = ap (λ (rules : List FlatRule). length rules) own.rules in
        let limit = within_limit (length work.flat.filter.rules) work.translations body.count adds.few in
        let both = length-append work.flat.filter.rules body.rules in
        let same : record work { flat = record work.flat { filter = joined work.flat.filter body.rules body.anchors; labels = body.labels } } ≡ next = cc is in
        subst (Advances (λ all. AreOfFilter all 16 x) work) same (record {
          own = body.rules;
          rules = refl;
          labels = own.labels;
          made = λ all behind. subst (AreOfFilter all 16 x) (sym own.rules) (own.made all behind);
          few = λ before. (let least = before.translations in record { all = omega (arith, limit, own_few, long, both); translations = least });
        })

    by_body : (found : Result Body ConfError) → filter_statement 16 work.scope (setting_of work (line_of x)) x (empty_body work.flat.labels) ≡ found → filter_by work found ≡ Ok next → Advances (λ all. AreOfFilter all 16 x) work next
    by_body (Err e) body_is is = absurd (cc is)
    by_body (Ok body) body_is is = by_fault body (statement_adds 16 work.scope (setting_of work (line_of x)) x (empty_body work.flat.labels) body body_is) body.fault refl is

-- ---- all statements

translates_advances : (work next : Work) → Translates work next → Advances (λ all rules. rules ≡ []) work next
translates_advances work next t = record { own = []; rules = t.rules ∙ sym (append-nil work.flat.filter.rules); labels = same_reach work.flat.labels next.flat.labels t.labels; made = λ all behind. refl; few = t.few }

statement_advances : (x : Statement) (work next : Work) → with_statement x work ≡ Ok next → Advances (λ all. AreOf all x) work next
unfolding with_statement
statement_advances (s.Macro d) work next is = stays_advances work next (macro_stays d work next is)
statement_advances (s.Table d) work next is = stays_advances work next (table_stays d work next is)
statement_advances (s.Option option) work next is = stays_advances work next (option_stays option work next is)
statement_advances (s.Translation found) work next is = translates_advances work next (translations_translate found work next is)
statement_advances (s.Filter x) work next is = filter_advances x work next is

all_advance : (xs : List Statement) (work next : Work) → expanded_from work xs ≡ Ok next → Advances (λ all. AreInTurn (AreOf all) xs) work next
all_advance [] work next is =
    let same : work ≡ next = cc is in
    subst (Advances (λ all. AreInTurn (AreOf all) []) work) same (record { own = []; rules = sym (append-nil work.flat.filter.rules); labels = reach_themselves work.flat.labels; made = λ all behind. refl; few = λ before. before })
all_advance (x ∷ xs) work next is = by_first (λ between. all_advance xs between next) (with_statement x work) refl is
  where
    by_first : ((between : Work) → expanded_from between xs ≡ Ok next → Advances (λ all. AreInTurn (AreOf all) xs) between next) → (found : Result Work ConfError) → with_statement x work ≡ found → and_more found (λ w. expanded_from w xs) ≡ Ok next → Advances (λ all. AreInTurn (AreOf all) (x ∷ xs)) work next
    by_first others (Err e) first_is is = absurd (cc is)
    by_first others (Ok between) first_is is =
        let first = statement_advances x work between first_is in
        let behind = others between is in
        record {
          own = first.own ++ behind.own;
          rules = behind.rules ∙ ap (λ (rules : List FlatRule). rules ++ behind.own) first.rules ∙ append_assoc work.flat.filter.rules first.own behind.own;
          labels = reach_on work.flat.labels between.flat.labels next.flat.labels first.labels behind.labels;
          made = λ all later. (first.own, behind.own, refl, first.made all (reach_on between.flat.labels next.flat.labels all behind.labels later), behind.made all later);
          few = λ before. behind.few (first.few before);
        }

-- a ruleset's rules are of its statements, and they are few
pub record IsOfAll (xs : List Statement) (r : R.Ruleset) : Type 0 where
  pub rules : AreInTurn (AreOf r.labels) xs r.filter.rules
  pub most : length r.filter.rules + translation_count r.translations ≤ 65536

abbrev begin_of : S.Statements → List Interface → Work
begin_of statements interfaces = started interfaces (table_names statements.statements)

of_all : (statements : S.Statements) (interfaces : List Interface) (r : R.Ruleset) → expanded statements interfaces ≡ Ok r → IsOfAll statements.statements r
unfolding expanded
of_all statements interfaces r is = by_work (expanded_from (begin_of statements interfaces) statements.statements) refl is
  where
    by_work : (found : Result Work ConfError) → expanded_from (begin_of statements interfaces) statements.statements ≡ found → ruleset_in found ≡ Ok r → IsOfAll statements.statements r
    by_work (Err e) work_is is = absurd (cc is)
    by_work (Ok work) work_is is =
        let same : work.flat ≡ r = cc is in
        let all = all_advance statements.statements (begin_of statements interfaces) work work_is in
        let few = all.few (record { all = omega arith; translations = omega arith }) in
        let total = few.all in
        let least = few.translations in
        subst (IsOfAll statements.statements) same (record {
          rules = subst (AreInTurn (AreOf work.flat.labels) statements.statements) (sym all.rules) (all.made work.flat.labels (reach_themselves work.flat.labels));
          most = omega (arith, total, least);
        })

pub rules_of : (statements : S.Statements) (interfaces : List Interface) (r : R.Ruleset) → expanded statements interfaces ≡ Ok r → AreInTurn (AreOf r.labels) statements.statements r.filter.rules
rules_of statements interfaces r is = (of_all statements interfaces r is).rules

pub most_of : (statements : S.Statements) (interfaces : List Interface) (r : R.Ruleset) → expanded statements interfaces ≡ Ok r → length r.filter.rules + translation_count r.translations ≤ 65536
most_of statements interfaces r is = (of_all statements interfaces r is).most

-- a limit that isn't reached cuts nothing
uncut : (a b : ℕ) → a + b ≤ 65536 → ◌≡◌ {A = ℕ × ℕ} (min a 4294967295, min b 4294967295) (a, b)
uncut a b few =
    let first : min a 4294967295 ≡ a = omega arith in
    let second : min b 4294967295 ≡ b = omega arith in
    rw (first, second) refl

pub counts_of : (statements : S.Statements) (interfaces : List Interface) (r : R.Ruleset) → expanded statements interfaces ≡ Ok r → counts r ≡ (length r.filter.rules, translation_count r.translations)
counts_of statements interfaces r is = uncut (length r.filter.rules) (translation_count r.translations) (most_of statements interfaces r is)
