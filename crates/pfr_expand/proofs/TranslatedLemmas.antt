-- What a translation rule makes of a ruleset on its way.
use Rattle.std.proofs.Common.{◌≡◌, ◌≤◌, ◌+◌, ℕ, length, true, Option, Some, None, Result, Ok, Err, refl, subst, arith}
use Rattle.pfr_ruleset.specs.declared.translations.Translations.{Translations}
use Rattle.pfr_terms.specs.declared.error.ConfError.{ConfError}
use Rattle.pfr_conf.specs.declared.targets.Target.{Target}
use Rattle.pfr_conf.specs.declared.targets.Target.TheVariants as target
use Rattle.pfr_conf.specs.declared.translation.TranslationRule.{TranslationRule}
use Rattle.pfr_elements.specs.declared.scope.Scope.{Scope}
use Rattle.pfr_flat.specs.declared.choices.Choices as C
use Rattle.pfr_flat.specs.Choices.{combinations}
use Rattle.pfr_flat.specs.Counts.{counted}
use Rattle.pfr_flat.specs.Lists.{addresses_in, choices_or_fault}
use Rattle.pfr_expand.specs.declared.expansion.Work.{Work}
use Rattle.pfr_expand.specs.declared.translation.Change.{Change}
use Rattle.pfr_expand.specs.Rulesets.{translated, translation_by, used_in, with_translation}
use Rattle.pfr_expand.specs.Translations.{change_of, lists_by, translation_lists, with_change, with_choices, with_rules}
use Rattle.pfr_expand.proofs.CountLemmas.{AreCounted, combinations_few, lists_counted, lists_counted_with, sources_counted, within}

-- a translation rule behind others: flat rules, numbered on, one for each combination of its lists
pub record IsTranslated (rule : TranslationRule) (work next : Work) : Type 0 where
  pub count : ℕ
  pub is_counted : counted (used_in work) rule.line (translation_lists work.scope rule) 0 1 ≡ Ok count
  pub choices : C.Choices
  pub are_chosen : choices_or_fault (translation_lists work.scope rule) ≡ Ok choices
  pub change : Change
  pub is_changed : change_of work.scope rule choices.destination_ports ≡ Ok change
  pub taken : next.translations ≡ work.translations + count
  pub filter : next.flat.filter.rules ≡ work.flat.filter.rules
  pub labels : next.flat.labels ≡ work.flat.labels
  pub rules : next.flat.translations ≡ with_rules work.translations rule.line rule.passes change (combinations choices) work.flat.translations

pub translated_by : (rule : TranslationRule) (work next : Work) → with_translation rule work ≡ Ok next → IsTranslated rule work next
unfolding with_translation
translated_by rule work next is = by_count (counted (used_in work) rule.line (translation_lists work.scope rule) 0 1) refl is
  where
    by_change : (count : ℕ) → counted (used_in work) rule.line (translation_lists work.scope rule) 0 1 ≡ Ok count → (c : C.Choices) → choices_or_fault (translation_lists work.scope rule) ≡ Ok c → (found : Result Change ConfError) → change_of work.scope rule c.destination_ports ≡ found
        → translated work count (with_change work.translations rule.line rule.passes c found work.flat.translations) ≡ Ok next → IsTranslated rule work next
    by_change count count_is c c_is (Err e) found_is is = absurd (cc is)
    by_change count count_is c c_is (Ok found) found_is is =
        let all : Translations = with_rules work.translations rule.line rule.passes found (combinations c) work.flat.translations in
        let same : record work { translations = work.translations + count; flat = record work.flat { translations = all } } ≡ next = cc is in
        subst (IsTranslated rule work) same (record { count = count; is_counted = count_is; choices = c; are_chosen = c_is; change = found; is_changed = found_is; taken = refl; filter = refl; labels = refl; rules = refl })

    by_choices : (count : ℕ) → counted (used_in work) rule.line (translation_lists work.scope rule) 0 1 ≡ Ok count → (found : Result C.Choices ConfError) → choices_or_fault (translation_lists work.scope rule) ≡ found
        → translated work count (with_choices work.scope work.translations rule found work.flat.translations) ≡ Ok next → IsTranslated rule work next
    by_choices count count_is (Err e) found_is is = absurd (cc is)
    by_choices count count_is (Ok c) found_is is = by_change count count_is c found_is (change_of work.scope rule c.destination_ports) refl is

    by_count : (found : Result ℕ ConfError) → counted (used_in work) rule.line (translation_lists work.scope rule) 0 1 ≡ found → translation_by work rule (translation_lists work.scope rule) found ≡ Ok next → IsTranslated rule work next
    by_count (Err e) count_is is = absurd (cc is)
    by_count (Ok count) count_is is = by_choices count count_is (choices_or_fault (translation_lists work.scope rule)) refl is

-- ---- how many rules it makes

translation_lists_counted : (scope : Scope) (rule : TranslationRule) → AreCounted (translation_lists scope rule)
unfolding translation_lists
translation_lists_counted scope rule = by_target rule.target
  where
    by_target : (to : Option Target) → AreCounted (lists_by scope rule to)
    by_target None = lists_counted scope true rule.criteria None
    by_target (Some (target.Nat to)) = lists_counted scope true rule.criteria None
    by_target (Some (target.Rdr to)) = lists_counted scope true rule.criteria None
    by_target (Some (target.Binat host)) = lists_counted_with scope true rule.criteria None _ (sources_counted scope rule.line (addresses_in rule.criteria.hosts.source))

-- the rules are no more than are counted
pub few_made : (rule : TranslationRule) (work next : Work) (made : IsTranslated rule work next) → length (combinations made.choices) ≤ made.count
few_made rule work next made =
    let w = within (used_in work) rule.line (translation_lists work.scope rule) 0 1 made.count made.is_counted in
    let total = w.is in
    let least = combinations_few (translation_lists work.scope rule) made.choices (translation_lists_counted work.scope rule) w.short made.are_chosen in
    omega (arith, least, total)

-- and with those that there were within the limit
pub within_all : (rule : TranslationRule) (work next : Work) (made : IsTranslated rule work next) → used_in work + made.count ≤ 65536
within_all rule work next made = (within (used_in work) rule.line (translation_lists work.scope rule) 0 1 made.count made.is_counted).few
