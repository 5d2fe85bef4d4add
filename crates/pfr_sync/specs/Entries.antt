-- Entries in the order of a list of slots.
use Rattle.std.specs.Prelude.{◌≡◌, ◌≤◌, ℕ, nat_eq, List, slice_get}
use Rattle.std.specs.List.{count_by, filter_map}

-- the entries in slots, in the order of a list of slot numbers
abbrev pub in_order : {X : Type 0} → List ℕ → List X → List X
in_order order slots = filter_map (slice_get slots) order

-- numbers of `count` slots, none of them twice
pub record AreSlots (count : ℕ) (order : List ℕ) : Type 0 where
  pub within : (slot : ℕ) → count ≤ slot → count_by (nat_eq slot) order ≡ 0
  pub once : (slot : ℕ) → count_by (nat_eq slot) order ≤ 1
