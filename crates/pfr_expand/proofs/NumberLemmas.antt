-- Each translation rule of a ruleset has a number of its own.
use Rattle.std.proofs.Common.{◌≡◌, ◌≤◌, ◌<◌, ◌+◌, ◌==◌, ℕ, suc, Bool, true, false, cond, nat_lt, if◌then◌else◌, List, [], ◌∷◌, ◌++◌, length, map, Option, Result, Ok, Err, refl, sym, ap, ◌∙◌, subst, arith}
use Rattle.std.specs.List.{count_by}
use Rattle.std.proofs.lemmas.Bool.{eqb-true, ltb-false, ltb-true}
use Rattle.std.proofs.lemmas.List.{map-append}
use Rattle.std.proofs.lemmas.List.Sums.{sum_by-append, sum_by-cons}
use Rattle.pfr_ruleset.specs.declared.flat.FlatTranslation.{FlatTranslation}
use Rattle.pfr_ruleset.specs.declared.flat.PacketMatch.{PacketMatch}
use Rattle.pfr_ruleset.specs.declared.interface.Interface.{Interface}
use Rattle.pfr_ruleset.specs.declared.ruleset.Ruleset as R
use Rattle.pfr_ruleset.specs.declared.translations.Translations.{Translations}
use Rattle.pfr_ruleset.specs.TranslationAids.{number_of}
use Rattle.pfr_ruleset.specs.Translations.{HaveOwnNumbers, numbers_of}
use Rattle.pfr_terms.specs.declared.error.ConfError.{ConfError}
use Rattle.pfr_terms.specs.declared.error.ConfErrorKind.TheVariants.{TooMany}
use Rattle.pfr_conf.specs.declared.statement.Statement.{Statement}
use Rattle.pfr_conf.specs.declared.statement.Statements as S
use Rattle.pfr_conf.specs.Statements.{statements_of}
use Rattle.pfr_flat.specs.Choices.{combinations}
use Rattle.pfr_flat.specs.Translations.{numbered}
use Rattle.pfr_expand.specs.declared.translation.Change.{Change}
use Rattle.pfr_expand.specs.declared.translation.Change.TheVariants as change
use Rattle.pfr_expand.specs.Rulesets.{expanded}
use Rattle.pfr_expand.specs.Texts.{expanded_by, ruleset_of}
use Rattle.pfr_expand.specs.Translations.{with_rules}
use Rattle.pfr_expand.proofs.KeepLemmas.{EachKeeps, all_stand}
use Rattle.pfr_expand.proofs.TranslatedLemmas.{few_made}

-- how many rules of a kind have a number
abbrev count_with_number : {A : Type 0} → ℕ → List (FlatTranslation A) → ℕ
count_with_number number rules = count_by (λ other. other == number) (map number_of rules)

-- and how many of all kinds
abbrev count_over_kinds : ℕ → Translations → ℕ
count_over_kinds number all = count_with_number number all.nats + (count_with_number number all.rdrs + count_with_number number all.binats)

-- how often it stands among the numbers of all
times_over_kinds : (number : ℕ) (all : Translations) → count_by (λ other. other == number) (numbers_of all) ≡ count_over_kinds number all
times_over_kinds number all =
    let first = sum_by-append (λ n. cond (n == number) 1 0) (map number_of all.nats) (map number_of all.rdrs ++ map number_of all.binats) in
    let others = sum_by-append (λ n. cond (n == number) 1 0) (map number_of all.rdrs) (map number_of all.binats) in
    omega (arith, first, others)

-- ---- the flat rules of one rule

-- one flat rule before others
numbered_first : {A : Type 0} (number : ℕ) (rule : FlatTranslation A) (rules : List (FlatTranslation A)) → count_with_number number (rule ∷ rules) ≡ cond (rule.number == number) 1 0 + count_with_number number rules
numbered_first number rule rules = sum_by-cons (λ n. cond (n == number) 1 0) rule.number (map number_of rules)

-- of rules that are numbered on from a number none has a lower one
none_before : {A : Type 0} (number first line : ℕ) (passes : Bool) (to : Option A) (matches : List PacketMatch) → number < first → count_with_number number (numbered first line passes to matches) ≡ 0
none_before number first line passes to [] low = refl
none_before {A = A} number first line passes to (m ∷ matches) low = by_test (first == number) refl (none_before number (suc first) line passes to matches (omega (arith, low)))
  where
    rule : FlatTranslation A
    rule = record { number = first; line = line; passes = passes; packet = m; target = to }

    by_test : (same : Bool) → (first == number) ≡ same → count_with_number number (numbered (suc first) line passes to matches) ≡ 0 → count_with_number number (numbered first line passes to (m ∷ matches)) ≡ 0
    by_test true is rest = (let equal : first ≡ number = eqb-true first number is in absurd (omega (arith, equal, low)))
    by_test false is rest =
        let one : cond {A = ℕ} (first == number) 1 0 ≡ 0 = rw is refl in
        let all = numbered_first number rule (numbered (suc first) line passes to matches) in
        omega (arith, rest, one, all)

-- nor one behind the last
none_behind : {A : Type 0} (number first line : ℕ) (passes : Bool) (to : Option A) (matches : List PacketMatch) → first + length matches ≤ number → count_with_number number (numbered first line passes to matches) ≡ 0
none_behind number first line passes to [] high = refl
none_behind {A = A} number first line passes to (m ∷ matches) high = by_test (first == number) refl (none_behind number (suc first) line passes to matches (omega (arith, high)))
  where
    rule : FlatTranslation A
    rule = record { number = first; line = line; passes = passes; packet = m; target = to }

    by_test : (same : Bool) → (first == number) ≡ same → count_with_number number (numbered (suc first) line passes to matches) ≡ 0 → count_with_number number (numbered first line passes to (m ∷ matches)) ≡ 0
    by_test true is rest = (let equal : first ≡ number = eqb-true first number is in absurd (omega (arith, equal, high)))
    by_test false is rest =
        let one : cond {A = ℕ} (first == number) 1 0 ≡ 0 = rw is refl in
        let all = numbered_first number rule (numbered (suc first) line passes to matches) in
        omega (arith, rest, one, all)

-- and no two have the same
one_at_most : {A : Type 0} (number first line : ℕ) (passes : Bool) (to : Option A) (matches : List PacketMatch) → count_with_number number (numbered first line passes to matches) ≤ 1
one_at_most number first line passes to [] = omega arith
one_at_most {A = A} number first line passes to (m ∷ matches) = by_test (first == number) refl (one_at_most number (suc first) line passes to matches)
  where
    rule : FlatTranslation A
    rule = record { number = first; line = line; passes = passes; packet = m; target = to }

    by_test : (same : Bool) → (first == number) ≡ same → count_with_number number (numbered (suc first) line passes to matches) ≤ 1 → count_with_number number (numbered first line passes to (m ∷ matches)) ≤ 1
    by_test true is rest =
        let equal : first ≡ number = eqb-true first number is in
        let one : cond {A = ℕ} (first == number) 1 0 ≡ 1 = rw is refl in
        let none = none_before number (suc first) line passes to matches (omega (arith, equal)) in
        let all = numbered_first number rule (numbered (suc first) line passes to matches) in
        omega (arith, none, one, all)
    by_test false is rest =
        let one : cond {A = ℕ} (first == number) 1 0 ≡ 0 = rw is refl in
        let all = numbered_first number rule (numbered (suc first) line passes to matches) in
        omega (arith, rest, one, all)

-- ---- behind other rules

-- each rule has a number of its own, below the next one
pub record AreNumbered (next : ℕ) (all : Translations) : Type 0 where
  pub own : (number : ℕ) → count_over_kinds number all ≤ 1
  pub free : (number : ℕ) → next ≤ number → count_over_kinds number all ≡ 0

-- rules that are numbered on, behind others
numbered_on : {A : Type 0} (next line : ℕ) (passes : Bool) (to : Option A) (matches : List PacketMatch) (count : ℕ) (all new : Translations) → length matches ≤ count
    → ((number : ℕ) → count_over_kinds number new ≡ count_over_kinds number all + count_with_number number (numbered next line passes to matches)) → AreNumbered next all → AreNumbered (next + count) new
numbered_on next line passes to matches count all new few added are = record {
  own = λ number. by_place number (nat_lt number next) refl;
  free = λ number high.
      (let before = are.free number (omega (arith, high)) in
      let none = none_behind number next line passes to matches (omega (arith, high, few)) in
      let both = added number in
      omega (arith, before, none, both));
}
  where
    by_place : (number : ℕ) (lower : Bool) → nat_lt number next ≡ lower → count_over_kinds number new ≤ 1
    by_place number true is =
        let before = are.own number in
        let none = none_before number next line passes to matches (ltb-true number next is) in
        let both = added number in
        omega (arith, before, none, both)
    by_place number false is =
        let before = are.free number (ltb-false number next is) in
        let once = one_at_most number next line passes to matches in
        let both = added number in
        omega (arith, before, once, both)

-- how many rules have a number, if some stand behind others
numbered_behind : {A : Type 0} (number : ℕ) (rules behind : List (FlatTranslation A)) → count_with_number number (rules ++ behind) ≡ count_with_number number rules + count_with_number number behind
numbered_behind number rules behind = ap (λ (numbers : List ℕ). count_by (λ other. other == number) numbers) (map-append number_of rules behind) ∙ sum_by-append (λ n. cond (n == number) 1 0) (map number_of rules) (map number_of behind)

rules_are_numbered : (next line : ℕ) (passes : Bool) (found : Change) (matches : List PacketMatch) (count : ℕ) (all : Translations) → length matches ≤ count → AreNumbered next all → AreNumbered (next + count) (with_rules next line passes found matches all)
rules_are_numbered next line passes (change.Nat to) matches count all few are =
    numbered_on next line passes to matches count all _ few (λ number. (let both = numbered_behind number all.nats (numbered next line passes to matches) in omega (arith, both))) are
rules_are_numbered next line passes (change.Rdr to) matches count all few are =
    numbered_on next line passes to matches count all _ few (λ number. (let both = numbered_behind number all.rdrs (numbered next line passes to matches) in omega (arith, both))) are
rules_are_numbered next line passes (change.Binat to) matches count all few are =
    numbered_on next line passes to matches count all _ few (λ number. (let both = numbered_behind number all.binats (numbered next line passes to matches) in omega (arith, both))) are

-- ---- all statements

-- a rule takes as many numbers as are counted, which are enough
each_is_numbered : (statements : List Statement) → EachKeeps AreNumbered statements
each_is_numbered statements rule work next there made are =
    let few = few_made rule work next made in
    let new = rules_are_numbered work.translations rule.line rule.passes made.change (combinations made.choices) made.count work.flat.translations few are in
    subst (λ (number : ℕ). AreNumbered number next.flat.translations) (sym made.taken) (subst (AreNumbered (work.translations + made.count)) (sym made.rules) new)

own_numbers : (statements : S.Statements) (interfaces : List Interface) (r : R.Ruleset) → expanded statements interfaces ≡ Ok r → HaveOwnNumbers r.translations
own_numbers statements interfaces r is number =
    let are = (all_stand AreNumbered statements interfaces r (each_is_numbered statements.statements) (record { own = λ n. omega arith; free = λ n high. refl }) is).1 in
    let own = are.own number in
    let all = times_over_kinds number r.translations in
    omega (arith, own, all)

pub text_has_own_numbers : (text : List ℕ) (interfaces : List Interface) (r : R.Ruleset) → ruleset_of text interfaces ≡ Ok r → HaveOwnNumbers r.translations
unfolding ruleset_of
text_has_own_numbers text interfaces r is = by_size (nat_lt 1048576 (length text)) is
  where
    by_statements : (found : Result S.Statements ConfError) → expanded_by found interfaces ≡ Ok r → HaveOwnNumbers r.translations
    by_statements (Err e) is = absurd (cc is)
    by_statements (Ok statements) is = own_numbers statements interfaces r is

    by_size : (long : Bool) → (if long then Err (record { line = 1; kind = TooMany }) else expanded_by (statements_of text) interfaces) ≡ Ok r → HaveOwnNumbers r.translations
    by_size true is = absurd (cc is)
    by_size false is = by_statements (statements_of text) is
