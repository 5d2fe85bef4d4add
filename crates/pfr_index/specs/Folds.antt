-- What going through the places under a hash gives.
use Rattle.std.specs.Prelude.{◌≡◌, ℕ, ◌<◌, Bool, true, false, List}
use Rattle.std.specs.List.{All, Contains, FoldsTo}
use Rattle.pfr_places.specs.declared.place.Place.{Place}
use Rattle.pfr_index.specs.declared.hash.Hash.{Hash}
use Rattle.pfr_index.specs.declared.slot.Slot.{Slot}
use Rattle.pfr_index.specs.Index.{Entry}
use Rattle.pfr_index.specs.Slots.{is_under}
use Rattle.pfr_index.specs.Searches.{IsEnd, IsFound}

-- steps over the places that stand under a hash: over no other place, and over each of them at least once
pub record FoldsUnder {B : Type 0} (Step : B → Place → B → Type 0) (start : B) (hash : Hash) (times : Entry → ℕ) (last : B) : Type 0 where
  pub places : List Place
  pub folds : FoldsTo Step start places last
  pub stand : (place : Place) → Contains places place → 0 < times (record { hash = hash; place = place })
  pub all : (place : Place) → 0 < times (record { hash = hash; place = place }) → Contains places place

-- what a search is told of a place, whatever the answer: the place is one of those gone through
abbrev pub Among : List Place → Place → Bool → Type 0
Among places place answer = Contains places place

-- if a slot is under the hash, its place is one of those gone through
abbrev pub IsCovered : Hash → List Place → Slot → Type 0
IsCovered hash places slot = is_under hash slot ≡ true → Contains places slot.place

-- how far slots were gone through: up to a free one, or to the end
abbrev pub Covers : Hash → List Place → List Slot → Bool → Type 0
Covers hash places slots true = IsEnd (Among places) hash slots
Covers hash places slots false = All (IsCovered hash places) slots

-- steps over the places under a hash in some slots, from the first slot on
pub record GoesThrough {B : Type 0} (Step : B → Place → B → Type 0) (start : B) (hash : Hash) (slots : List Slot) (last : B) (was_free : Bool) : Type 0 where
  pub places : List Place
  pub folds : FoldsTo Step start places last
  pub stand : (place : Place) → Contains places place → IsFound (Among places) hash slots place
  pub covers : Covers hash places slots was_free
