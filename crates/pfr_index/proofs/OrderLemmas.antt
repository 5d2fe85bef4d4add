-- Two places in the order of a search, of which one comes first.
use Rattle.std.proofs.Common.{◌≡◌, ℕ, ◌<◌, ◌≤◌, true, false, List, length, get_or, arith, subst, inl, inr}
use Rattle.std.proofs.lemmas.Bool.{cases_eq, cases_lt}
use Rattle.std.proofs.lemmas.Bool.Decides.{nat_tests}
use Rattle.pfr_index.specs.declared.hash.Hash.{Hash}
use Rattle.pfr_index.specs.declared.slot.Slot.{Slot}
use Rattle.pfr_index.specs.Index.{Entry}
use Rattle.pfr_index.specs.Slots.{AllBefore, AreReached, IsReached, ends, holds, home_of, is_free, is_held, is_under}

-- what holds before a place holds at the other one, or the other way round, or they are the same
pub data Meet (P Q : Slot → Type 0) (slots : List Slot) (i k : ℕ) : Type 0 where
  later : ((other : Slot) → P (get_or slots k other)) → Meet P Q slots i k
  sooner : ((other : Slot) → Q (get_or slots i other)) → Meet P Q slots i k
  same : k ≡ i → Meet P Q slots i k

module _ (P Q : Slot → Type 0) (slots : List Slot) (home i k : ℕ) (to_i : AllBefore P slots home i) (to_k : AllBefore Q slots home k) (i_within : i < length slots) (k_within : k < length slots) where
  both_ahead : home ≤ i → home ≤ k → Meet P Q slots i k
  both_ahead i_over k_over =
      elim (cases_lt k i) [
        | inl under ↦ later (λ other. to_i.ahead i_over k other k_over under)
        | inr over ↦
            elim (cases_eq k i) [
              | inl equal ↦ same equal
              | inr apart ↦ sooner (λ other. to_k.ahead k_over i other i_over (omega arith))
            ]
      ]

  both_round : i < home → k < home → Meet P Q slots i k
  both_round i_under k_under =
      elim (cases_lt k i) [
        | inl under ↦ later (λ other. to_i.from_start i_under k other (omega arith) under)
        | inr over ↦
            elim (cases_eq k i) [
              | inl equal ↦ same equal
              | inr apart ↦ sooner (λ other. to_k.from_start k_under i other (omega arith) (omega arith))
            ]
      ]

  pub meets : Meet P Q slots i k
  meets =
      elim (cases_lt i home) [
        | inl i_under ↦
            elim (cases_lt k home) [
              | inl k_under ↦ both_round i_under k_under
              | inr k_over ↦ later (λ other. to_i.to_end i_under k other k_over k_within)
            ]
        | inr i_over ↦
            elim (cases_lt k home) [
              | inl k_under ↦ sooner (λ other. to_k.to_end k_under i other i_over i_within)
              | inr k_over ↦ both_ahead i_over k_over
            ]
      ]

-- ---- what a test says of a slot

-- parts of a test that a slot passes
pub under_held : (hash : Hash) (slot : Slot) → is_under hash slot ≡ true → is_held slot ≡ true
under_held hash slot under = grind (arith, nat_tests)

pub under_hash : (hash : Hash) (slot : Slot) → is_under hash slot ≡ true → slot.hash.0 ≡ hash.0
under_hash hash slot under = grind (arith, nat_tests)

pub holds_under : (entry : Entry) (slot : Slot) → holds entry slot ≡ true → is_under entry.hash slot ≡ true
holds_under entry slot there = grind (arith, nat_tests)

pub holds_place : (entry : Entry) (slot : Slot) → holds entry slot ≡ true → slot.place.0 ≡ entry.place.0
holds_place entry slot there = grind (arith, nat_tests)

pub free_unheld : (slot : Slot) → is_free slot ≡ true → is_held slot ≡ false
free_unheld slot free = grind (arith, nat_tests)

pub ends_free : (entry : Entry) (slot : Slot) → ends entry slot ≡ true → is_held slot ≡ false → is_free slot ≡ true
ends_free entry slot ended unheld = grind (arith, nat_tests)

pub ends_holds : (entry : Entry) (slot : Slot) → ends entry slot ≡ true → is_held slot ≡ true → holds entry slot ≡ true
ends_holds entry slot ended held = grind (arith, nat_tests)

pub ends_other : (entry : Entry) (slot : Slot) → ends entry slot ≡ false → holds entry slot ≡ false
ends_other entry slot ended = grind (arith, nat_tests)

-- a slot under a hash is reached from the home of that hash
pub under_reached : (slots : List Slot) (hash : Hash) (k : ℕ) (other : Slot) → AreReached slots → k < length slots → is_under hash (get_or slots k other) ≡ true
    → IsReached slots (home_of hash (length slots)) k
under_reached slots hash k other reached within under =
    let same : (get_or slots k other).hash.0 ≡ hash.0 = under_hash hash (get_or slots k other) under in
    subst
    (λ number. IsReached slots (home_of (record { 0 = number }) (length slots)) k)
    same
    (reached k other within (under_held hash (get_or slots k other) under))

-- if a search ends at a free slot, no slot under the hash stands behind that one
pub end_before : (P : Slot → Type 0) (slots : List Slot) (hash : Hash) (i : ℕ) → AreReached slots → AllBefore P slots (home_of hash (length slots)) i → i < length slots
    → ((other : Slot) → is_free (get_or slots i other) ≡ true)
    → (k : ℕ) (other : Slot) → k < length slots → is_under hash (get_or slots k other) ≡ true → P (get_or slots k other)
end_before P slots hash i reached before within free k other below under =
    let held : is_held (get_or slots k other) ≡ true = under_held hash (get_or slots k other) under in
    elim (meets P (λ slot. is_free slot ≡ false) slots (home_of hash (length slots)) i k before (under_reached slots hash k other reached below under) within below) [
      | later there ↦ there other
      | sooner busy ↦ absurd (let clash = free other in let no = busy other in cc)
      | same equal ↦
          absurd (let clash : is_held (get_or slots k other) ≡ false = rw equal (free_unheld (get_or slots i other) (free other)) in cc)
    ]
