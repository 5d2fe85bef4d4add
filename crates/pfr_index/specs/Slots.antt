-- Slots in a row, in which places stand under hashes, and the order in which a search goes through them.
use Rattle.std.specs.Prelude.{◌≡◌, ℕ, ◌+◌, ◌-◌, ◌*◌, ◌/◌, ◌%◌, ◌^◌, ◌<◌, ◌≤◌, ◌==◌, ◌&&◌, ◌||◌, Bool, true, false, not, nat_lt, min, List, length, take, drop, map, Option, Some, None, set, slice_index_or}
use Rattle.std.specs.List.{All, AllWithin, count_by, filter, position}
use Rattle.pfr_index.specs.declared.hash.Hash.{Hash}
use Rattle.pfr_index.specs.declared.slot.Slot.{Slot}
use Rattle.pfr_index.specs.Index.{Entry, Indexed, index_of, is_same, places}

-- nothing stood there so far
abbrev pub is_free : Slot → Bool
is_free slot = slot.place.0 == places + 1

abbrev pub is_held : Slot → Bool
is_held slot = nat_lt slot.place.0 places

abbrev pub is_unheld : Slot → Bool
is_unheld slot = not (is_held slot)

abbrev pub entry_of : Slot → Entry
entry_of slot = record { hash = slot.hash; place = slot.place }

abbrev pub is_under : Hash → Slot → Bool
is_under hash slot = slot.hash.0 == hash.0 && is_held slot

abbrev pub holds : Entry → Slot → Bool
holds entry slot = is_held slot && is_same (entry_of slot) entry

-- where a search for an entry ends
abbrev pub ends : Entry → Slot → Bool
ends entry slot = is_free slot || holds entry slot

abbrev pub entries_of : List Slot → List Entry
entries_of slots = map entry_of (filter is_held slots)

abbrev pub room_of : List Slot → ℕ
room_of slots = length slots - count_by is_held slots

abbrev pub indexed_of : List Slot → Indexed
indexed_of slots = index_of (entries_of slots, room_of slots)

-- ---- the order of a search

-- the slot where a search for a hash begins, among `count` slots
unfoldable pub home_of : Hash → ℕ → ℕ
home_of hash count = min (hash.0 * count % 2 ^ 64 / 2 ^ 32) count

abbrev pub after_all : ℕ → Option ℕ → Option ℕ → Option ℕ
after_all home (Some index) others = Some (home + index)
after_all home None others = others

-- the first slot that passes a test, from a home on to the end, and then from the start on to the home
unfoldable pub first_from : (Slot → Bool) → List Slot → ℕ → Option ℕ
first_from test slots home = after_all home (position test (drop home slots)) (position test (take home slots))

-- what holds of each slot that a search from a home on goes through before it comes to a slot
pub record AllBefore (P : Slot → Type 0) (slots : List Slot) (home index : ℕ) : Type 0 where
  pub ahead : home ≤ index → AllWithin P slots home index
  pub to_end : index < home → AllWithin P slots home (length slots)
  pub from_start : index < home → AllWithin P slots 0 index

-- a search that ends at a free slot comes to a slot
abbrev pub IsReached : List Slot → ℕ → ℕ → Type 0
IsReached slots home index = AllBefore (λ slot. is_free slot ≡ false) slots home index

abbrev pub AreReached : List Slot → Type 0
AreReached slots =
    (index : ℕ) (other : Slot) → index < length slots → is_held (slice_index_or slots index other) ≡ true → IsReached slots (home_of (slice_index_or slots index other).hash (length slots)) index

-- ---- changes

-- a slot takes the place of one that isn't held
pub record IsPut (old : List Slot) (slot : Slot) (was_free : Bool) (new : List Slot) : Type 0 where
  pub index : ℕ
  pub within : index < length old
  pub unheld : (other : Slot) → is_held (slice_index_or old index other) ≡ false
  pub free : (other : Slot) → is_free (slice_index_or old index other) ≡ was_free
  pub is : new ≡ set old index slot
  pub reached : AreReached new

-- a slot that holds an entry is left
pub record IsLeft (old : List Slot) (entry : Entry) (new : List Slot) : Type 0 where
  pub index : ℕ
  pub left : Slot
  pub within : index < length old
  pub there : (other : Slot) → holds entry (slice_index_or old index other) ≡ true
  pub busy : is_free left ≡ false
  pub unheld : is_held left ≡ false
  pub is : new ≡ set old index left

-- whether a slot held the entry, and the slots then
abbrev pub Leaves : List Slot → Entry → Bool → List Slot → Type 0
Leaves old entry true new = IsLeft old entry new
Leaves old entry false new = (new ≡ old) × All (λ slot. holds entry slot ≡ false) old

-- ---- the invariant

-- a search finds all that is held; the numbers of held and of free slots are kept beside the slots
pub record IsIndex (slots : List Slot) (held free : ℕ) : Type 0 where
  pub reached : AreReached slots
  pub held_is : held ≡ count_by is_held slots
  pub free_is : free ≡ count_by is_free slots
