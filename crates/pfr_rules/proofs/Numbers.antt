-- Numbers that follow one another.
use Rattle.std.proofs.Common.{◌≡◌, ◌<◌, ◌≤◌, ◌+◌, ◌-◌, ◌&&◌, ◌==◌, ℕ, zero, suc, Bool, true, nat_le, nat_lt, [], ◌∷◌, ◌++◌, append_assoc, sym, refl, arith}
use Rattle.std.specs.List.{filter}
use Rattle.std.proofs.lemmas.Bool.{leb-true, eqb-true}
use Rattle.std.proofs.lemmas.List.{append-nil}
use Rattle.std.proofs.lemmas.List.Elements.{filter-append}
use Rattle.pfr_rules.specs.Numbers.{numbers_from, numbers_below, follows}
use Rattle.pfr_rules.proofs.Places.{and_both}

-- numbers and those that follow them
pub numbers_join : (first m n : ℕ) → numbers_from first (m + n) ≡ numbers_from first m ++ numbers_from (first + m) n
numbers_join first m zero = (let e : m + 0 ≡ m = omega arith in rw (e, append-nil (numbers_from first m)) refl)
numbers_join first m (suc n) =
    let e : m + suc n ≡ suc (m + n) = omega arith in
    let f : first + (m + n) ≡ first + m + n = omega arith in
    rw (e, f, numbers_join first m n) (append_assoc (numbers_from first m) (numbers_from (first + m) n) ((first + m + n) ∷ []))

-- a number that follows others is the one behind the last
pub followed : (first count number : ℕ) → follows first count number ≡ true → number ≡ first + count
followed first count number is =
    let few = and_both (nat_lt count 18446744073709551615) (nat_le first number && number - first == count) is in
    let above = and_both (nat_le first number) (number - first == count) few.1 in
    let begun = leb-true first number above.0 in
    let same = eqb-true (number - first) count above.1 in
    omega (arith, begun, same)

-- numbers that all pass a test, behind those below them that do
pub passed_on : (p : ℕ → Bool) (place n : ℕ) → ((q : ℕ) → place ≤ q → q < place + n → p q ≡ true) → filter p (numbers_below place) ++ numbers_from place n ≡ filter p (numbers_below (place + n))
passed_on p place zero inside = (let e : place + 0 ≡ place = omega arith in rw e (append-nil (filter p (numbers_below place))))
passed_on p place (suc n) inside =
    let e : place + suc n ≡ suc (place + n) = omega arith in
    let here : p (place + n) ≡ true = inside (place + n) (omega arith) (omega arith) in
    let rest = passed_on p place n (λ q from upto. inside q from (omega (arith, upto))) in
    let split = append_assoc (filter p (numbers_below place)) (numbers_from place n) ((place + n) ∷ []) in
    rw (e, filter-append p (numbers_below (place + n)) ((place + n) ∷ []), here, ← rest) (sym split)

-- one number more
pub one_behind : (place to : ℕ) → place ≤ to → numbers_from place (to + 1 - place) ≡ numbers_from place (to - place) ++ to ∷ []
one_behind place to le =
    let e : to + 1 - place ≡ suc (to - place) = omega (arith, le) in
    let f : place + (to - place) ≡ to = omega (arith, le) in
    rw e (rw f refl)
