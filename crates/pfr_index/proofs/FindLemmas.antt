-- What a search for a place under a hash finds.
use Rattle.std.proofs.Common.{◌≡◌, ℕ, ◌+◌, ◌-◌, ◌<◌, ◌≤◌, Bool, true, false, List, [], ◌∷◌, zero, suc, length, take, drop, get_or, Option, Some, None, IfSome, IfNone, arith, refl, subst, inl, inr}
use Rattle.std.specs.List.{All, AllWithin, sum_by}
use Rattle.std.proofs.lemmas.Bool.{cases_lt}
use Rattle.std.proofs.lemmas.Bool.Decides.{nat_tests}
use Rattle.std.proofs.lemmas.List.{get_or_default, get_or-drop, get_or-take, length-take, length-drop}
use Rattle.std.proofs.lemmas.List.Sums.{get_or-le-sum_by, sum_by-cons}
use Rattle.pfr_places.specs.declared.place.Place.{Place}
use Rattle.pfr_index.specs.declared.hash.Hash.{Hash}
use Rattle.pfr_index.specs.declared.slot.Slot.{Slot}
use Rattle.pfr_index.specs.Index.{Entry, times_in}
use Rattle.pfr_index.specs.Slots.{AllBefore, AreReached, entries_of, holds, home_of, is_free}
use Rattle.pfr_index.specs.Searches.{IsEnd, IsFound, IsNone, IsOther}
use Rattle.pfr_index.proofs.SearchLemmas.{some_slot}
use Rattle.pfr_index.proofs.CountLemmas.{counted, times_is}
use Rattle.pfr_index.proofs.OrderLemmas.{end_before, holds_place, holds_under}

-- where a search ends
pub end_at : (Answers : Place → Bool → Type 0) (hash : Hash) (slots : List Slot) (index : ℕ) (any : Slot) → index < length slots → is_free (get_or slots index any) ≡ true
    → AllWithin (IsOther Answers hash) slots 0 index → IsEnd Answers hash slots
end_at Answers hash slots index any within free before = record {
  index = index;
  within = within;
  free = λ other. rw (get_or_default slots index other any within) free;
  before = before;
}

-- what holds at a place in a part of the slots
at_late : (P : Slot → Type 0) (slots : List Slot) (home k : ℕ) (other : Slot) → home ≤ k → P (get_or (drop home slots) (k - home) other) → P (get_or slots k other)
at_late P slots home k other over there =
    let same : home + (k - home) ≡ k = omega arith in
    subst (λ n. P (get_or slots n other)) same (rw (get_or-drop home slots (k - home) other) at there)

at_early : (P : Slot → Type 0) (slots : List Slot) (home k : ℕ) (other : Slot) → k < home → P (get_or (take home slots) k other) → P (get_or slots k other)
at_early P slots home k other under there = rw (get_or-take home slots k other under) at there

all_late : (P : Slot → Type 0) (slots : List Slot) (home : ℕ) → All P (drop home slots) → (k : ℕ) (other : Slot) → home ≤ k → k < length slots → P (get_or slots k other)
all_late P slots home all k other over below = at_late P slots home k other over (all (k - home) other (omega (arith, length-drop home slots)))

module _ (Answers : Place → Bool → Type 0) (hash : Hash) (slots : List Slot) (home : ℕ) (within : home ≤ length slots) where
  pub found_late : (place : Place) → IsFound Answers hash (drop home slots) place → IsFound Answers hash slots place
  found_late place found = record {
    index = home + found.index;
    within = omega (arith, found.within, length-drop home slots);
    there = λ other. rw (get_or-drop home slots found.index other) at (found.there other);
    answer = found.answer;
  }

  pub found_early : (place : Place) → IsFound Answers hash (take home slots) place → IsFound Answers hash slots place
  found_early place found = record {
    index = found.index;
    within = omega (arith, found.within, length-take home slots);
    there = λ other. rw (get_or-take home slots found.index other (omega (arith, found.within, length-take home slots))) at (found.there other);
    answer = found.answer;
  }

  pub none_late : AreReached slots → home ≡ home_of hash (length slots) → IsEnd Answers hash (drop home slots) → IsNone Answers hash slots
  none_late reached is_home end k other below under =
      let before : AllBefore (IsOther Answers hash) slots home (home + end.index) = record {
        ahead = λ _ m any from to. at_late (IsOther Answers hash) slots home m any from (end.before (m - home) any (omega arith) (omega arith));
        to_end = λ turned. absurd (omega arith);
        from_start = λ turned. absurd (omega arith);
      } in
      let free : (any : Slot) → is_free (get_or slots (home + end.index) any) ≡ true = λ any. rw (get_or-drop home slots end.index any) at (end.free any) in
      end_before
      (IsOther Answers hash)
      slots
      hash
      (home + end.index)
      reached
      (subst (λ n. AllBefore (IsOther Answers hash) slots n (home + end.index)) is_home before)
      (omega (arith, end.within, length-drop home slots))
      free
      k
      other
      below
      under
      under

  pub none_early : AreReached slots → home ≡ home_of hash (length slots) → All (IsOther Answers hash) (drop home slots) → IsEnd Answers hash (take home slots) → IsNone Answers hash slots
  none_early reached is_home late end k other below under =
      let turned : end.index < home = omega (arith, end.within, length-take home slots) in
      let before : AllBefore (IsOther Answers hash) slots home end.index = record {
        ahead = λ over. absurd (omega arith);
        to_end = λ _ m any from to. all_late (IsOther Answers hash) slots home late m any from to;
        from_start = λ _ m any from to. at_early (IsOther Answers hash) slots home m any (omega arith) (end.before m any from to);
      } in
      let free : (any : Slot) → is_free (get_or slots end.index any) ≡ true = λ any. rw (get_or-take home slots end.index any turned) at (end.free any) in
      end_before
      (IsOther Answers hash)
      slots
      hash
      end.index
      reached
      (subst (λ n. AllBefore (IsOther Answers hash) slots n end.index) is_home before)
      (omega arith)
      free
      k
      other
      below
      under
      under

  pub none_all : All (IsOther Answers hash) (drop home slots) → All (IsOther Answers hash) (take home slots) → IsNone Answers hash slots
  none_all late early k other below =
      elim (cases_lt k home) [
        | inl under ↦ at_early (IsOther Answers hash) slots home k other under (early k other (omega (arith, length-take home slots)))
        | inr over ↦ all_late (IsOther Answers hash) slots home late k other over below
      ]

-- ---- by how often an entry stands there

there_counts : (entry : Entry) (slot : Slot) → holds entry slot ≡ true → counted entry slot ≡ 1
there_counts entry slot there = grind (arith, nat_tests)

other_counts : (entry : Entry) (slot : Slot) → holds entry slot ≡ false → counted entry slot ≡ 0
other_counts entry slot there = grind (arith, nat_tests)

pub found_counts : (Answers : Place → Bool → Type 0) (hash : Hash) (slots : List Slot) (place : Place) → IsFound Answers hash slots place
    → 0 < times_in (entries_of slots) (record { hash = hash; place = place })
found_counts Answers hash slots place found =
    let entry : Entry = record { hash = hash; place = place } in
    omega (
      arith,
      times_is entry slots,
      there_counts entry (get_or slots found.index some_slot) (found.there some_slot),
      get_or-le-sum_by (counted entry) slots found.index some_slot found.within,
    )

-- where an entry stands
record Stands (entry : Entry) (slots : List Slot) : Type 0 where
  index : ℕ
  within : index < length slots
  there : (other : Slot) → holds entry (get_or slots index other) ≡ true

stands_by : (entry : Entry) (slot : Slot) (slots : List Slot) → (0 < sum_by (counted entry) slots → Stands entry slots)
    → 0 < sum_by (counted entry) (slot ∷ slots) → (here : Bool) → holds entry slot ≡ here → Stands entry (slot ∷ slots)
stands_by entry slot slots further counts true here = record { index = zero; within = omega arith; there = λ other. here }
stands_by entry slot slots further counts false here =
    let rest = further (omega (arith, sum_by-cons (counted entry) slot slots, other_counts entry slot here)) in
    record { index = suc rest.index; within = omega (arith, rest.within); there = rest.there }

stands : (entry : Entry) (slots : List Slot) → 0 < sum_by (counted entry) slots → Stands entry slots
stands entry [] counts = absurd (omega arith)
stands entry (slot ∷ slots) counts = stands_by entry slot slots (stands entry slots) counts (holds entry slot) refl

pub none_counts : (Answers : Place → Bool → Type 0) (hash : Hash) (slots : List Slot) → IsNone Answers hash slots
    → (place : Place) → 0 < times_in (entries_of slots) (record { hash = hash; place = place }) → Answers place false
none_counts Answers hash slots none place counts =
    let entry : Entry = record { hash = hash; place = place } in
    let found : Stands entry slots = stands entry slots (omega (arith, times_is entry slots)) in
    let slot : Slot = get_or slots found.index some_slot in
    subst
    (λ number. Answers (record { 0 = number }) false)
    (holds_place entry slot (found.there some_slot))
    (none found.index some_slot found.within (holds_under entry slot (found.there some_slot)))

-- ---- by the answer

pub some_counts : (Answers : Place → Bool → Type 0) (hash : Hash) (slots : List Slot) (result : Option Place) → IfSome result (λ place. IsFound Answers hash slots place)
    → IfSome result (λ place. (0 < times_in (entries_of slots) (record { hash = hash; place = place })) × Answers place true)
some_counts Answers hash slots (Some place) found = (found_counts Answers hash slots place found, found.answer)
some_counts Answers hash slots None found = tt

pub none_counted : (Answers : Place → Bool → Type 0) (hash : Hash) (slots : List Slot) (result : Option Place) → IfNone result (IsNone Answers hash slots)
    → IfNone result ((place : Place) → 0 < times_in (entries_of slots) (record { hash = hash; place = place }) → Answers place false)
none_counted Answers hash slots (Some place) none = tt
none_counted Answers hash slots None none = none_counts Answers hash slots none
