-- Where a search of slots comes to.
use Rattle.std.proofs.Common.{◌≡◌, ℕ, ◌+◌, ◌-◌, ◌<◌, ◌≤◌, Bool, true, false, List, length, take, drop, Option, Some, None, get_or, arith, refl, ◌∙◌, inl, inr}
use Rattle.std.specs.List.{All, position, position_or_len}
use Rattle.std.proofs.lemmas.Bool.{cases_lt, lt-ltb}
use Rattle.std.proofs.lemmas.List.{get_or-drop, get_or-take, length-take, length-drop}
use Rattle.std.proofs.lemmas.List.Quantifiers.{position-Some}
use Rattle.std.proofs.lemmas.List.Sums.{fails_before_first}
use Rattle.pfr_index.specs.declared.slot.Slot.{Slot}
use Rattle.pfr_index.specs.Slots.{AllBefore, after_all, first_from}

-- any slot
abbrev pub some_slot : Slot
some_slot = record { hash = record { 0 = 0 }; place = record { 0 = 0 } }

-- the first slot that passes a test, as a search from a home on comes to it
pub record IsFirst (test : Slot → Bool) (slots : List Slot) (home index : ℕ) : Type 0 where
  pub within : index < length slots
  pub passes : (other : Slot) → test (get_or slots index other) ≡ true
  pub before : AllBefore (λ slot. test slot ≡ false) slots home index

fails_all : (test : Slot → Bool) (slots : List Slot) → position test slots ≡ None → (k : ℕ) (other : Slot) → k < length slots → test (get_or slots k other) ≡ false
fails_all test slots none k other within =
    elim (cases_lt (position_or_len test slots) (length slots)) [
      | inl below ↦ absurd (let yes = lt-ltb (position_or_len test slots) (length slots) below in let clash = rw yes at none in cc)
      | inr past ↦ fails_before_first test slots k other (omega arith)
    ]

fails_late : (test : Slot → Bool) (slots : List Slot) (home : ℕ) → position test (drop home slots) ≡ None
    → (k : ℕ) (other : Slot) → home ≤ k → k < length slots → test (get_or slots k other) ≡ false
fails_late test slots home none k other from to =
    let there = get_or-drop home slots (k - home) other in
    let same : home + (k - home) ≡ k = omega arith in
    let no = fails_all test (drop home slots) none (k - home) other (omega (arith, length-drop home slots)) in
    cc

first_late : (test : Slot → Bool) (slots : List Slot) (home index : ℕ) → home ≤ length slots
    → (i : ℕ) → position test (drop home slots) ≡ Some i → home + i ≡ index → IsFirst test slots home index
first_late test slots home index within i late_is is =
    let found : (other : Slot) → (i < length (drop home slots)) × (test (get_or (drop home slots) i other) ≡ true) × ((k : ℕ) → k < i → test (get_or (drop home slots) k other) ≡ false) =
    λ other. position-Some test (drop home slots) i other late_is in
    record {
      within = omega (arith, length-drop home slots, (found some_slot).0);
      passes = λ other.
          let there = get_or-drop home slots i other in
          let yes = (found other).1 in
          cc;
      before = record {
        ahead = λ _ k other from to.
            let there = get_or-drop home slots (k - home) other in
            let same : home + (k - home) ≡ k = omega arith in
            let no = (found other).2 (k - home) (omega arith) in
            cc;
        to_end = λ under. absurd (omega arith);
        from_start = λ under. absurd (omega arith);
      };
    }

first_early : (test : Slot → Bool) (slots : List Slot) (home index : ℕ) → home ≤ length slots
    → position test (drop home slots) ≡ None → position test (take home slots) ≡ Some index → IsFirst test slots home index
first_early test slots home index within late_is early_is =
    let found : (other : Slot) → (index < length (take home slots)) × (test (get_or (take home slots) index other) ≡ true) × ((k : ℕ) → k < index → test (get_or (take home slots) k other) ≡ false) =
    λ other. position-Some test (take home slots) index other early_is in
    record {
      within = omega (arith, length-take home slots, (found some_slot).0);
      passes = λ other.
          let there = get_or-take home slots index other (omega (arith, length-take home slots, (found some_slot).0)) in
          let yes = (found other).1 in
          cc;
      before = record {
        ahead = λ over. absurd (omega (arith, length-take home slots, (found some_slot).0));
        to_end = λ under k other from to. fails_late test slots home late_is k other from to;
        from_start = λ under k other from to.
            let there = get_or-take home slots k other (omega arith) in
            let no = (found other).2 k to in
            cc;
      };
    }

first_by : (test : Slot → Bool) (slots : List Slot) (home index : ℕ) → home ≤ length slots
    → (late early : Option ℕ) → position test (drop home slots) ≡ late → position test (take home slots) ≡ early
    → after_all home late early ≡ Some index → IsFirst test slots home index
first_by test slots home index within (Some i) early late_is early_is is = first_late test slots home index within i late_is cc
first_by test slots home index within None early late_is early_is is = first_early test slots home index within late_is (early_is ∙ is)

pub first_is : (test : Slot → Bool) (slots : List Slot) (home index : ℕ) → home ≤ length slots → first_from test slots home ≡ Some index → IsFirst test slots home index
unfolding first_from
first_is test slots home index within is = first_by test slots home index within _ _ refl refl is

none_by : (test : Slot → Bool) (slots : List Slot) (home : ℕ) → home ≤ length slots
    → (late early : Option ℕ) → position test (drop home slots) ≡ late → position test (take home slots) ≡ early
    → after_all home late early ≡ None → All (λ slot. test slot ≡ false) slots
none_by test slots home within (Some i) early late_is early_is is = cc
none_by test slots home within None early late_is early_is is =
    λ k other below.
    elim (cases_lt k home) [
      | inl under ↦
          let there = get_or-take home slots k other under in
          let no = fails_all test (take home slots) (early_is ∙ is) k other (omega (arith, length-take home slots)) in
          cc
      | inr over ↦ fails_late test slots home late_is k other over below
    ]

pub none_is : (test : Slot → Bool) (slots : List Slot) (home : ℕ) → home ≤ length slots → first_from test slots home ≡ None → All (λ slot. test slot ≡ false) slots
unfolding first_from
none_is test slots home within is = none_by test slots home within _ _ refl refl is
