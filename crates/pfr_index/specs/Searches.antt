-- What a search of slots finds, by the answers of a test.
use Rattle.std.specs.Prelude.{◌≡◌, ℕ, ◌<◌, Bool, true, false, List, length, slice_index_or}
use Rattle.std.specs.List.{All, AllWithin}
use Rattle.pfr_places.specs.declared.place.Place.{Place}
use Rattle.pfr_index.specs.declared.hash.Hash.{Hash}
use Rattle.pfr_index.specs.declared.slot.Slot.{Slot}
use Rattle.pfr_index.specs.declared.search.Outcome.{Outcome}
use Rattle.pfr_index.specs.declared.search.Outcome.TheVariants.{At, Nowhere, NotYet}
use Rattle.pfr_index.specs.Slots.{holds, is_free, is_under}

module _ (Answers : Place → Bool → Type 0) (hash : Hash) where
  -- if a slot is under the hash, the test answers false for its place
  abbrev pub IsOther : Slot → Type 0
  IsOther slot = is_under hash slot ≡ true → Answers slot.place false

  -- the test answers true for a place under the hash
  pub record IsFound (slots : List Slot) (place : Place) : Type 0 where
    pub index : ℕ
    pub within : index < length slots
    pub there : (other : Slot) → holds (record { hash = hash; place = place }) (slice_index_or slots index other) ≡ true
    pub answer : Answers place true

  -- a slot is free, and all slots before it are others
  pub record IsEnd (slots : List Slot) : Type 0 where
    pub index : ℕ
    pub within : index < length slots
    pub free : (other : Slot) → is_free (slice_index_or slots index other) ≡ true
    pub before : AllWithin IsOther slots 0 index

  abbrev pub ComesTo : List Slot → Outcome → Type 0
  ComesTo slots (At place) = IsFound slots place
  ComesTo slots Nowhere = IsEnd slots
  ComesTo slots NotYet = All IsOther slots

  -- the test answers false for each place under the hash
  abbrev pub IsNone : List Slot → Type 0
  IsNone slots = All IsOther slots
