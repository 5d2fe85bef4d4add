-- Names of interfaces are exact.
use Rattle.std.proofs.Common.{◌≡◌, ℕ, zero, suc, Bool, true, false, not, ◌||◌, ◌&&◌, cond, eqb, List, [], ◌∷◌, ◌++◌, length, Result, Ok, Err, refl, ap, subst, ◌∙◌, arith}
use Rattle.std.proofs.lemmas.Bool.{eqb-true, eq-eqb}
use Rattle.pfr_net.specs.declared.interface.IfName.{IfName}
use Rattle.pfr_messages.specs.declared.fault.Fault.{Fault}
use Rattle.pfr_messages.specs.declared.fault.Fault.TheVariants.{Differs}
use Rattle.pfr_messages.specs.Fields.{◌>>=◌, are_padded, may_stand, name, name_at, padded_at}
use Rattle.pfr_messages.proofs.FieldLoops.{padded_step}
use Rattle.pfr_messages.proofs.Fitting.{both, both_hold}
use Rattle.pfr_messages.proofs.Formats.{IsBytes, IsBytes-rest, IsExact, Takes, bind_ok, ok_is}

abbrev taken : List ℕ → List ℕ → Result (List ℕ × List ℕ) Fault
taken text rest = Ok (text, rest)

-- a byte that may stand: whether the name ended before it, whether it is 0, and whether it has the last place
stands : (ended is_zero last : Bool) → (is_zero || (not ended && not last)) ≡ true
    → (last ≡ true → is_zero ≡ true) × ((not ended || is_zero) ≡ true) × ((ended || is_zero) ≡ is_zero)
stands true true last may = (λ e. refl, refl, refl)
stands true false last may = absurd cc
stands false true last may = (λ e. refl, refl, refl)
stands false false true may = absurd cc
stands false false false may = (λ e. absurd cc, refl, refl)

may : (ended is_zero last : Bool) → (not ended || is_zero) ≡ true → (last ≡ true → is_zero ≡ true)
    → (is_zero || (not ended && not last)) ≡ true
may true true last h at_last = refl
may true false last h at_last = absurd cc
may false true last h at_last = refl
may false false true h at_last = at_last refl
may false false false h at_last = refl

still : (ended is_zero : Bool) → (not ended || is_zero) ≡ true → (ended || is_zero) ≡ is_zero
still true true h = refl
still true false h = absurd cc
still false is_zero h = refl

pub guard_passes : {A : Type 0} (b : Bool) (d : Fault) (r : Result A Fault) (y : A) → cond (not b) (Err d) r ≡ Ok y
    → (b ≡ true) × (r ≡ Ok y)
guard_passes true d r y e = (refl, e)
guard_passes false d r y e = absurd cc

padded_takes : (places : ℕ) (ended : Bool) (bytes : List ℕ) (x : List ℕ × List ℕ) → IsBytes bytes
    → (eqb places 0 ≡ true → ended ≡ true) → padded_at places ended bytes ≡ Ok x
    → Takes bytes x.0 x.1 × (length x.0 ≡ places) × (are_padded ended x.0 ≡ true)
unfolding padded_at
padded_takes zero ended bytes x are over e =
    subst (λ (y : List ℕ × List ℕ). Takes bytes y.0 y.1 × (length y.0 ≡ 0) × (are_padded ended y.0 ≡ true))
    (ok_is ([], bytes) x e) (record { parts = refl; rest_fits = are }, refl, over refl)
padded_takes (suc places) ended [] x are over e = absurd cc
padded_takes (suc places) ended (b ∷ bytes) x are over e =
    let g = guard_passes (may_stand ended places b) (Differs (suc (length bytes)))
    (padded_at places (eqb b 0) bytes >>= (λ rest. Ok (b ∷ rest.0, rest.1))) x e in
    let s = stands ended (eqb b 0) (eqb places 0) g.0 in
    let read = bind_ok (padded_at places (eqb b 0) bytes) (λ rest. Ok (b ∷ rest.0, rest.1)) x g.1 in
    let t = padded_takes places (eqb b 0) bytes read.0 (IsBytes-rest b bytes are) s.0 read.1 in
    let tail : are_padded (ended || eqb b 0) read.0.0 ≡ true = rw s.2 t.2 in
    subst (λ (y : List ℕ × List ℕ). Takes (b ∷ bytes) y.0 y.1 × (length y.0 ≡ suc places) × (are_padded ended y.0 ≡ true))
    (ok_is (b ∷ read.0.0, read.0.1) x read.2) (
      record { parts = ap (λ (l : List ℕ). b ∷ l) t.0.parts; rest_fits = t.0.rest_fits },
      ap suc t.1,
      both_hold
          (not ended || eqb b 0) (are_padded (ended || eqb b 0) read.0.0) s.1 tail,
    )

last_is_zero : (places : ℕ) (ended : Bool) (text : List ℕ) → length text ≡ places → are_padded ended text ≡ true
    → eqb places 0 ≡ true → ended ≡ true
last_is_zero places ended [] len padded e = padded
last_is_zero places ended (b ∷ text) len padded e = let none = eqb-true places 0 e in absurd (omega arith)

padded_again : (places : ℕ) (ended : Bool) (text rest : List ℕ) → length text ≡ places → are_padded ended text ≡ true
    → padded_at places ended (text ++ rest) ≡ Ok (text, rest)
unfolding padded_at
padded_again zero ended [] rest len padded = refl
padded_again zero ended (b ∷ text) rest len padded = absurd (omega arith)
padded_again (suc places) ended [] rest len padded = absurd (omega arith)
padded_again (suc places) ended (b ∷ text) rest len padded =
    let p = both (not ended || eqb b 0) (are_padded (ended || eqb b 0) text) padded in
    let tail : are_padded (eqb b 0) text ≡ true = rw (← still ended (eqb b 0) p.0) p.1 in
    let shorter : length text ≡ places = omega arith in
    let stands_here = may ended (eqb b 0) (eqb places 0) p.0 (last_is_zero places (eqb b 0) text shorter tail) in
    padded_step places ended b (text ++ rest) stands_here
    ∙ ap (λ (r : Result (List ℕ × List ℕ) Fault). r >>= (λ x. Ok (b ∷ x.0, x.1)))
    (padded_again places (eqb b 0) text rest shorter tail)

name_takes : (bytes : List ℕ) (x : IfName) (rest : List ℕ) → IsBytes bytes → name_at bytes ≡ Ok (x, rest)
    → Takes bytes x.bytes rest × (name.fits x ≡ true)
name_takes bytes x rest are e =
    let read = bind_ok (padded_at 16 false bytes) (λ n. Ok (record { bytes = n.0 }, n.1)) (x, rest) e in
    let t = padded_takes 16 false bytes read.0 are (λ e. absurd cc) read.1 in
    subst (λ (p : IfName × List ℕ). Takes bytes p.0.bytes p.1 × (name.fits p.0 ≡ true))
    (ok_is (record { bytes = read.0.0 }, read.0.1) (x, rest) read.2)
    (t.0, both_hold (eqb (length read.0.0) 16) (are_padded false read.0.0) (eq-eqb (length read.0.0) 16 t.1) t.2)

name_again : (x : IfName) (rest : List ℕ) → name.fits x ≡ true → name_at (x.bytes ++ rest) ≡ Ok (x, rest)
name_again x rest fits =
    let p = both (eqb (length x.bytes) 16) (are_padded false x.bytes) fits in
    ap (λ (r : Result (List ℕ × List ℕ) Fault). r >>= (λ n. Ok (record { bytes = n.0 }, n.1)))
    (padded_again 16 false x.bytes rest (eqb-true (length x.bytes) 16 p.0) p.1)

pub exact_name : IsExact name 16
exact_name = record {
  len = λ x fits. eqb-true (length x.bytes) 16 (both (eqb (length x.bytes) 16) (are_padded false x.bytes) fits).0;
  takes = name_takes;
  again = name_again;
}
