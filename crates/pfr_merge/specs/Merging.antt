-- The merge of several lists of events into one.
use Rattle.std.specs.Prelude.{◌≡◌, ℕ, ◌<◌, true, false, if◌then◌else◌, List, [], ◌∷◌, Some, slice_get, slice_set}
use Rattle.pfr_merge.specs.Arrivals.{Event, comes_before}

-- Two lists in one: of the two next events the second list's is taken if it comes before the first list's.
abbrev pub merge : List Event → List Event → List Event
merge [] ys = ys
merge (x ∷ xs) [] = x ∷ xs
merge (x ∷ xs) (y ∷ ys) = if comes_before y x then y ∷ merge (x ∷ xs) ys else x ∷ merge xs (y ∷ ys)

-- many lists in one: of equal events the first list's is taken
abbrev pub merged : List (List Event) → List Event
merged [] = []
merged (events ∷ lists) = merge events (merged lists)

-- The event x is the next one of the list at a place, with a rest behind it. It comes before the next events of the lists before it,
-- and none of the next events of the lists behind it comes before it.
pub record IsNext (lists : List (List Event)) (place : ℕ) (x : Event) (rest : List Event) : Type 0 where
  pub stands : slice_get lists place ≡ Some (x ∷ rest)
  pub first : (k : ℕ) (y : Event) (ys : List Event) → k < place → slice_get lists k ≡ Some (y ∷ ys) → comes_before x y ≡ true
  pub least : (k : ℕ) (y : Event) (ys : List Event) → place < k → slice_get lists k ≡ Some (y ∷ ys) → comes_before y x ≡ false

-- no list has an event
abbrev pub AreEmpty : List (List Event) → Type 0
AreEmpty lists = (k : ℕ) (events : List Event) → slice_get lists k ≡ Some events → events ≡ []

-- a list takes the events of many lists, one after the other, each when it is the next
abbrev pub IsMerge : List (List Event) → List Event → Type 0
IsMerge lists [] = AreEmpty lists
IsMerge lists (x ∷ events) = (place : ℕ) × (rest : List Event) × IsNext lists place x rest × IsMerge (slice_set lists place rest) events
