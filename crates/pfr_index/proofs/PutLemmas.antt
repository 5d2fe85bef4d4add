-- What a slot that takes the place of another one changes.
use Rattle.std.proofs.Common.{◌≡◌, ℕ, ◌<◌, ◌≤◌, Bool, true, false, cond, List, [], ◌∷◌, length, set, get_or, arith, sym, refl, subst, inl, inr}
use Rattle.std.specs.List.{All, AllWithin, count_by}
use Rattle.std.proofs.lemmas.Bool.{cases_eq}
use Rattle.std.proofs.lemmas.Bool.Decides.{nat_tests}
use Rattle.std.proofs.lemmas.List.{get_or_default, length-set, get_or-set_same, get_or-set_other}
use Rattle.std.proofs.lemmas.List.Elements.{All-head, All-tail, AllWithin-set}
use Rattle.std.proofs.lemmas.List.Sums.{sum_by-cons}
use Rattle.pfr_index.specs.declared.slot.Slot.{Slot}
use Rattle.pfr_index.specs.Slots.{AllBefore, AreReached, IsPut, IsReached, home_of, is_free, is_held, is_unheld}
use Rattle.pfr_index.proofs.SearchLemmas.{IsFirst}

-- a slot that isn't free keeps all reached in the place of any other one
reached_still : (slots : List Slot) (at : ℕ) (slot : Slot) → at < length slots → is_free slot ≡ false
    → (home k : ℕ) → IsReached slots home k → IsReached (set slots at slot) home k
reached_still slots at slot within busy home k reached = record {
  ahead = λ over. AllWithin-set (λ slot. is_free slot ≡ false) slots home k at slot within busy (reached.ahead over);
  to_end = λ under.
      subst
      (λ n. AllWithin (λ slot. is_free slot ≡ false) (set slots at slot) home n)
      (sym (length-set slots at slot))
      (AllWithin-set (λ slot. is_free slot ≡ false) slots home (length slots) at slot within busy (reached.to_end under));
  from_start = λ under. AllWithin-set (λ slot. is_free slot ≡ false) slots 0 k at slot within busy (reached.from_start under);
}

-- what is held isn't free
pub held_is_busy : (slot : Slot) → is_held slot ≡ true → is_free slot ≡ false
held_is_busy slot held = grind (arith, nat_tests)

unheld_false : (slot : Slot) → is_unheld slot ≡ false → is_free slot ≡ false
unheld_false slot held = grind (arith, nat_tests)

-- where all before a place is held, a slot there is reached
reached_first : (slots : List Slot) (home at : ℕ) → AllBefore (λ slot. is_unheld slot ≡ false) slots home at → IsReached slots home at
reached_first slots home at before = record {
  ahead = λ over k other from to. unheld_false (get_or slots k other) (before.ahead over k other from to);
  to_end = λ under k other from to. unheld_false (get_or slots k other) (before.to_end under k other from to);
  from_start = λ under k other from to. unheld_false (get_or slots k other) (before.from_start under k other from to);
}

pub all_reached : (slots : List Slot) (at : ℕ) (slot : Slot) → at < length slots → is_free slot ≡ false
    → (is_held slot ≡ true → IsReached slots (home_of slot.hash (length slots)) at)
    → AreReached slots → AreReached (set slots at slot)
all_reached slots at slot within busy there reached k other below held =
    elim (cases_eq k at) [
      | inl same ↦
          let here : get_or (set slots at slot) k other ≡ slot = rw same (get_or-set_same slots at slot other within) in
          let inside : is_held slot ≡ true = rw here at held in
          let was : IsReached slots (home_of slot.hash (length slots)) k = subst (λ n. IsReached slots (home_of slot.hash (length slots)) n) (sym same) (there inside) in
          rw (here, length-set slots at slot) (reached_still slots at slot within busy (home_of slot.hash (length slots)) k was)
      | inr apart ↦
          let here : get_or (set slots at slot) k other ≡ get_or slots k other = get_or-set_other slots at k slot other apart in
          let inside : is_held (get_or slots k other) ≡ true = rw here at held in
          let under : k < length slots = omega (arith, length-set slots at slot) in
          rw (here, length-set slots at slot) (reached_still slots at slot within busy (home_of (get_or slots k other).hash (length slots)) k (reached k other under inside))
    ]

pub put_is : (slots : List Slot) (at : ℕ) (slot : Slot) (was_free : Bool) → is_held slot ≡ true → AreReached slots
    → IsFirst is_unheld slots (home_of slot.hash (length slots)) at
    → (any : Slot) → was_free ≡ is_free (get_or slots at any)
    → IsPut slots slot was_free (set slots at slot)
put_is slots at slot was_free held reached first any was = record {
  index = at;
  within = first.within;
  unheld = λ other. let not_held = first.passes other in grind (arith, nat_tests);
  free = λ other. rw (get_or_default slots at other any first.within) (sym was);
  is = refl;
  reached = all_reached slots at slot first.within (held_is_busy slot held) (λ _. reached_first slots (home_of slot.hash (length slots)) at first.before) reached;
}

-- if a slot isn't held, not all are
pub none_full : (slots : List Slot) → All (λ slot. is_unheld slot ≡ false) slots → length slots ≤ count_by is_held slots
none_full [] all = omega arith
none_full (slot ∷ slots) all =
    let first : is_unheld slot ≡ false = All-head (λ slot. is_unheld slot ≡ false) slot slots all in
    let held : is_held slot ≡ true = grind (arith, nat_tests) in
    let one : cond {A = ℕ} (is_held slot) 1 0 ≡ 1 = rw held refl in
    omega (arith, one, sum_by-cons (λ slot. cond (is_held slot) 1 0) slot slots, none_full slots (All-tail (λ slot. is_unheld slot ≡ false) slot slots all))
