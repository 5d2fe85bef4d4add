-- More fuel than bytes reads the same window scale, so an option can be stepped over.
use Rattle.std.proofs.Common.{◌≡◌, ◌&&◌, ◌||◌, ◌≤◌, ℕ, zero, suc, Bool, true, false, not, eqb, ltb, List, [], ◌∷◌, length, drop, None, Some, refl, sym, cond, arith, min, slice_index}
use Rattle.std.proofs.lemmas.Bool.{or_parts, ltb-false}
use Rattle.std.proofs.lemmas.List.{length-drop}
use Rattle.pfr_headers.specs.TcpOptions.{ends, is_scale, option_length, scale_of, scale_within}

at_fuel : (n : ℕ) (options : List ℕ) → ends options ≡ true → scale_within n options ≡ None
at_fuel zero options e = refl
at_fuel (suc n) options e = rw e refl

pub none_at_end : (options : List ℕ) → ends options ≡ true → scale_of options ≡ None
unfolding scale_of
none_at_end options e = at_fuel (length options) options e

-- an option that stands there has a length
some_length : (one a c : Bool) (k : ℕ) → (not one && (a || (ltb k 2 || c))) ≡ false → 1 ≤ cond one 1 k
some_length true a c k e = omega arith
some_length false a c k e =
    let two = ltb-false k 2 (or_parts (ltb k 2) c (or_parts a (ltb k 2 || c) e).1).0 in
    omega arith

length_some : (options : List ℕ) → ends options ≡ false → 1 ≤ option_length options
length_some options e =
    let first = or_parts (eqb (length options) 0) _ e in
    let kind = or_parts (eqb (slice_index options 0) 0) _ first.1 in
    some_length (eqb (slice_index options 0) 1) (ltb (length options) 2) (ltb (length options) (slice_index options 1)) (slice_index options 1) kind.1

not_empty : (options : List ℕ) → ends options ≡ false → 1 ≤ length options
not_empty [] e = absurd (cc)
not_empty (x ∷ xs) e = omega arith

by_tests : (n m : ℕ) (options : List ℕ) (over scale : Bool) → ends options ≡ over → is_scale options ≡ scale
    → (over ≡ false → scale_within n (drop (option_length options) options) ≡ scale_within m (drop (option_length options) options))
    → scale_within (suc n) options ≡ scale_within (suc m) options
by_tests n m options true scale e s same = rw e refl
by_tests n m options false true e s same = rw (e, s) refl
by_tests n m options false false e s same = rw (e, s) (same refl)

enough : (n m : ℕ) (options : List ℕ) → length options ≤ n → length options ≤ m → scale_within n options ≡ scale_within m options
enough zero m [] a b = sym (at_fuel m [] refl)
enough zero m (x ∷ xs) a b = absurd (omega arith)
enough (suc n) zero [] a b = at_fuel (suc n) [] refl
enough (suc n) zero (x ∷ xs) a b = absurd (omega arith)
enough (suc n) (suc m) options a b =
    by_tests n m options (ends options) (is_scale options) refl refl (λ on.
    let some = length_some options on in
    let all = not_empty options on in
    let left = length-drop (option_length options) options in
    enough n m (drop (option_length options) options) (omega arith) (omega arith))

here : (n : ℕ) (options : List ℕ) → ends options ≡ false → is_scale options ≡ true → 1 ≤ n → scale_within n options ≡ Some (min (slice_index options 2) 14)
here zero options e s some = absurd (omega arith)
here (suc n) options e s some = rw (e, s) refl

-- a window scale that stands first is the one
pub scale_here : (options : List ℕ) → ends options ≡ false → is_scale options ≡ true → scale_of options ≡ Some (min (slice_index options 2) 14)
unfolding scale_of
scale_here options e s = here (length options) options e s (not_empty options e)

next : (n : ℕ) (options : List ℕ) → ends options ≡ false → is_scale options ≡ false → length options ≤ n → scale_within n options ≡ scale_of (drop (option_length options) options)
unfolding scale_of
next zero options e s within = absurd (let some = not_empty options e in omega arith)
next (suc n) options e s within =
    let some = length_some options e in
    let all = not_empty options e in
    let left = length-drop (option_length options) options in
    rw (e, s)
    (enough n (length (drop (option_length options) options)) (drop (option_length options) options) (omega arith) (omega arith))

-- another option is stepped over
pub scale_next : (options : List ℕ) → ends options ≡ false → is_scale options ≡ false → scale_of options ≡ scale_of (drop (option_length options) options)
unfolding scale_of
scale_next options e s = next (length options) options e s (omega arith)
