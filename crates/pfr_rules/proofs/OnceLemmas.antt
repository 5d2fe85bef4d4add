-- A packet visits no rule twice.
use Rattle.std.proofs.Common.{◌≡◌, ◌≤◌, ◌+◌, ◌==◌, ℕ, zero, suc, Bool, true, false, cond, if◌then◌else◌, List, [], ◌∷◌, ◌++◌, map, Option, Some, None, refl, arith}
use Rattle.std.specs.List.{count_by, filter}
use Rattle.std.proofs.lemmas.Bool.{eqb-true}
use Rattle.std.proofs.lemmas.List.Sums.{sum_by-append, sum_by-cons, sum_by_push}
use Rattle.pfr_net.specs.declared.direction.Direction.{Direction}
use Rattle.pfr_net.specs.declared.direction.Direction.TheVariants.{In, Out}
use Rattle.pfr_net.specs.declared.interface.IfName.{IfName}
use Rattle.pfr_headers.specs.declared.packet.Packet.{Packet}
use Rattle.pfr_ruleset.specs.declared.ruleset.Ruleset.{Ruleset}
use Rattle.pfr_ruleset.specs.declared.translations.Translations.{Translations}
use Rattle.pfr_ruleset.specs.Translations.{HaveOwnNumbers, numbers_of}
use Rattle.pfr_rules.specs.declared.hit.Hit.{Hit}
use Rattle.pfr_rules.specs.Filter.{Rooms, anchored, is_inside, reach, visited}
use Rattle.pfr_rules.specs.Numbers.{numbers_below}
use Rattle.pfr_rules.specs.Translating.{asked_behind, asked_in, binat_holds, binat_of, binats, numbered, others_asked, translation_holds, translations_visited, up_to_first}

-- how often a number stands in a list
abbrev times : ℕ → List ℕ → ℕ
times rule numbers = count_by (λ number. number == rule) numbers

-- ---- numbers in order

-- one more number
pushed : (rule n : ℕ) → times rule (numbers_below (suc n)) ≡ times rule (numbers_below n) + cond (n == rule) 1 0
pushed rule n = sum_by_push (λ number. cond (number == rule) 1 0) (numbers_below n) n

-- a number at or above the bound doesn't stand below it
none_below : (rule n : ℕ) → n ≤ rule → times rule (numbers_below n) ≡ 0
none_below rule zero few = refl
none_below rule (suc n) few = by_test (n == rule) refl (none_below rule n (omega (arith, few)))
  where
    by_test : (same : Bool) → (n == rule) ≡ same → times rule (numbers_below n) ≡ 0 → times rule (numbers_below (suc n)) ≡ 0
    by_test true is before = (let equal : n ≡ rule = eqb-true n rule is in absurd (omega (arith, equal, few)))
    by_test false is before =
        let one : cond {A = ℕ} (n == rule) 1 0 ≡ 0 = rw is refl in
        let more = pushed rule n in
        omega (arith, before, one, more)

-- and none stands there twice
once_below : (rule n : ℕ) → times rule (numbers_below n) ≤ 1
once_below rule zero = omega arith
once_below rule (suc n) = by_test (n == rule) refl (once_below rule n)
  where
    by_test : (same : Bool) → (n == rule) ≡ same → times rule (numbers_below n) ≤ 1 → times rule (numbers_below (suc n)) ≤ 1
    by_test true is before =
        let equal : n ≡ rule = eqb-true n rule is in
        let one : cond {A = ℕ} (n == rule) 1 0 ≡ 1 = rw is refl in
        let none = none_below rule n (omega (arith, equal)) in
        let more = pushed rule n in
        omega (arith, none, one, more)
    by_test false is before =
        let one : cond {A = ℕ} (n == rule) 1 0 ≡ 0 = rw is refl in
        let more = pushed rule n in
        omega (arith, before, one, more)

-- a filter adds none
filtered : (rule : ℕ) (test : ℕ → Bool) (numbers : List ℕ) → times rule (filter test numbers) ≤ times rule numbers
filtered rule test [] = omega arith
filtered rule test (x ∷ xs) = by_test (test x) (filtered rule test xs)
  where
    by_test : (passes : Bool) → times rule (filter test xs) ≤ times rule xs → times rule (cond passes (x ∷ filter test xs) (filter test xs)) ≤ times rule (x ∷ xs)
    by_test true rest =
        let kept = sum_by-cons (λ number. cond (number == rule) 1 0) x (filter test xs) in
        let all = sum_by-cons (λ number. cond (number == rule) 1 0) x xs in
        omega (arith, rest, kept, all)
    by_test false rest = (let all = sum_by-cons (λ number. cond (number == rule) 1 0) x xs in omega (arith, rest, all))

-- ---- the filter

pub visited_once : (flat : Ruleset) (rooms : Rooms) (name : IfName) (packet : Packet) (direction : Direction) (rule : ℕ) → times rule (visited flat rooms name packet direction) ≤ 1
unfolding visited
visited_once flat rooms name packet direction rule =
    let reached : ℕ = reach flat rooms name packet direction in
    let kept = filtered rule (is_inside (anchored flat name packet direction) flat.filter.anchors) (numbers_below reached) in
    let once = once_below rule reached in
    omega (arith, kept, once)

-- ---- translation

-- up to the first rule that holds a number stands no more often than in all
asked_once : {R : Type 0} (rule : ℕ) (test : R → Bool) (number : R → ℕ) (rules : List R) → times rule (up_to_first test number rules) ≤ times rule (map number rules)
asked_once rule test number [] = omega arith
asked_once rule test number (x ∷ xs) = by_test (test x) (asked_once rule test number xs)
  where
    by_test : (ends : Bool) → times rule (up_to_first test number xs) ≤ times rule (map number xs)
        → times rule (number x ∷ (if ends then [] else up_to_first test number xs)) ≤ times rule (number x ∷ map number xs)
    by_test true rest =
        let one = sum_by-cons (λ n. cond (n == rule) 1 0) (number x) [] in
        let all = sum_by-cons (λ n. cond (n == rule) 1 0) (number x) (map number xs) in
        let none : times rule [] ≡ 0 = refl in
        omega (arith, none, one, all)
    by_test false rest =
        let some = sum_by-cons (λ n. cond (n == rule) 1 0) (number x) (up_to_first test number xs) in
        let all = sum_by-cons (λ n. cond (n == rule) 1 0) (number x) (map number xs) in
        omega (arith, rest, some, all)

others_once : (flat : Ruleset) (name : IfName) (packet : Packet) (direction : Direction) (rule : ℕ)
    → times rule (others_asked flat name packet direction) ≤ times rule (map numbered flat.translations.nats) + times rule (map numbered flat.translations.rdrs)
others_once flat name packet In rule = (let some = asked_once rule (translation_holds flat name packet In) numbered flat.translations.rdrs in omega (arith, some))
others_once flat name packet Out rule = (let some = asked_once rule (translation_holds flat name packet Out) numbered flat.translations.nats in omega (arith, some))

behind_once : (rule : ℕ) (found : Option Hit) (others : List ℕ) → times rule (asked_behind found others) ≤ times rule others
behind_once rule None others = omega arith
behind_once rule (Some hit) others = omega arith

-- how often a number stands in those of all kinds
times_over_kinds : (rule : ℕ) (all : Translations) → times rule (numbers_of all) ≡ times rule (map numbered all.nats) + (times rule (map numbered all.rdrs) + times rule (map numbered all.binats))
times_over_kinds rule all =
    let first = sum_by-append (λ n. cond (n == rule) 1 0) (map numbered all.nats) (map numbered all.rdrs ++ map numbered all.binats) in
    let others = sum_by-append (λ n. cond (n == rule) 1 0) (map numbered all.rdrs) (map numbered all.binats) in
    omega (arith, first, others)

pub translation_visited_once : (flat : Ruleset) (name : IfName) (packet : Packet) (direction : Direction) (rule : ℕ) → HaveOwnNumbers flat.translations → times rule (translations_visited flat name packet direction) ≤ 1
unfolding translations_visited
translation_visited_once flat name packet direction rule own =
    let first : List ℕ = asked_in binats flat name packet direction flat.translations.binats in
    let others : List ℕ = others_asked flat name packet direction in
    let both = sum_by-append (λ n. cond (n == rule) 1 0) first (asked_behind (binat_of flat name packet direction) others) in
    let asked = asked_once rule (binat_holds flat name packet direction) numbered flat.translations.binats in
    let behind = behind_once rule (binat_of flat name packet direction) others in
    let rest = others_once flat name packet direction rule in
    let all = times_over_kinds rule flat.translations in
    let once = own rule in
    omega (arith, both, asked, behind, rest, all, once)
