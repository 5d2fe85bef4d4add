-- How values stand in a slab: what is at each index, and a list of entries by rising number that say at which index.
use Rattle.std.specs.Prelude.{◌≡◌, ◌+◌, ◌<◌, ◌≤◌, ℕ, ◌==◌, ◌&&◌, Bool, true, false, not, nat_lt, is_some, List, [], ◌∷◌, ◌++◌, length, take, drop, slice_index_or, Option, Some, None}
use Rattle.std.specs.List.{list_all, list_any}
use Rattle.pfr_places.specs.declared.place.Place.{Place}
use Rattle.pfr_places.specs.declared.order.Ordered.{Ordered}
use Rattle.pfr_places.specs.Places.{Placed}

-- ---- entries

abbrev pub is_below : ℕ → Ordered → Bool
is_below number entry = nat_lt entry.number number

abbrev pub is_above : ℕ → Ordered → Bool
is_above number entry = nat_lt number entry.number

abbrev pub is_of : ℕ → Ordered → Bool
is_of number entry = entry.number == number

abbrev pub is_index : ℕ → Option Place → Bool
is_index index None = false
is_index index (Some place) = place.0 == index

-- whether an entry says this index
abbrev pub is_entry_at : ℕ → Ordered → Bool
is_entry_at index entry = is_index index entry.place

-- the numbers of entries rise
abbrev pub numbers_rise : List Ordered → Bool
numbers_rise [] = true
numbers_rise (entry ∷ others) = list_all (is_above entry.number) others && numbers_rise others

-- no two entries say the same index
abbrev pub HaveOwnIndexes : List Ordered → Type 0
HaveOwnIndexes [] = Unit {0}
HaveOwnIndexes (entry ∷ others) = ((index : ℕ) → is_entry_at index entry ≡ true → list_any (is_entry_at index) others ≡ false) × HaveOwnIndexes others

-- a number is above those of entries before it, and below those of entries behind it
pub record IsBetween (number : ℕ) (before behind : List Ordered) : Type 0 where
  pub below : list_all (is_below number) before ≡ true
  pub above : list_all (is_above number) behind ≡ true

-- the entry of a number is at this index
pub record IsRankOf (number at : ℕ) (order : List Ordered) : Type 0 where
  pub within : at < length order
  pub is : (other : Ordered) → (slice_index_or order at other).number ≡ number
  pub between : IsBetween number (take at order) (drop (at + 1) order)

-- no entry has the number, which belongs before this index
pub record IsRankFor (number at : ℕ) (order : List Ordered) : Type 0 where
  pub within : at ≤ length order
  pub between : IsBetween number (take at order) (drop at order)

-- the entries from this index on are those with greater numbers
pub record IsFrom (number from : ℕ) (order : List Ordered) : Type 0 where
  pub within : from ≤ length order
  pub before : list_all (λ entry. not (is_above number entry)) (take from order) ≡ true
  pub behind : list_all (is_above number) (drop from order) ≡ true

-- ---- what stands

module _ {T : Type 0} where
  -- what a slab has at an index
  abbrev pub held : List (Option T) → ℕ → Option T
  held values index = slice_index_or values index None

  abbrev pub placed_with : ℕ → Place → Option T → Option (Placed T)
  placed_with number place None = None
  placed_with number place (Some value) = Some (record { number = number; place = place; value = value })

  abbrev pub placed_at : (ℕ → Option T) → ℕ → Option Place → Option (Placed T)
  placed_at holds number None = None
  placed_at holds number (Some place) = placed_with number place (holds place.0)

  -- what stands at the place of an entry
  abbrev pub placed_of : (ℕ → Option T) → Ordered → Option (Placed T)
  placed_of holds entry = placed_at holds entry.number entry.place

  abbrev pub with_first : Option (Placed T) → List (Placed T) → List (Placed T)
  with_first None others = others
  with_first (Some placed) others = placed ∷ others

  -- all that stands at the places of entries
  abbrev pub standing : (ℕ → Option T) → List Ordered → List (Placed T)
  standing holds [] = []
  standing holds (entry ∷ others) = with_first (placed_of holds entry) (standing holds others)

  -- a slab holds its values at the places of the entries, and nowhere else
  pub record AreStanding (values : List (Option T)) (order : List Ordered) (count : ℕ) : Type 0 where
    pub in_order : numbers_rise order ≡ true
    pub own_indexes : HaveOwnIndexes order
    pub full : (index : ℕ) → is_some (held values index) ≡ list_any (is_entry_at index) order
    pub counted : count ≡ length (standing (held values) order)
    pub few : length values ≤ 4294967294

-- ---- changes of entries

-- a place was given to a number: to an entry of the number, or to a new one where it belongs
pub record IsPut (number : ℕ) (place : Place) (old new : List Ordered) : Type 0 where
  pub before : List Ordered
  pub same : List Ordered
  pub behind : List Ordered
  pub was : old ≡ before ++ (same ++ behind)
  pub is_now : new ≡ before ++ record { number = number; place = Some place } ∷ behind
  pub of_number : list_all (is_of number) same ≡ true
  pub between : IsBetween number before behind

-- the place of a number was taken from its entry
pub record IsTaken (number : ℕ) (place : Place) (old new : List Ordered) : Type 0 where
  pub before : List Ordered
  pub behind : List Ordered
  pub was : old ≡ before ++ record { number = number; place = Some place } ∷ behind
  pub is_now : new ≡ before ++ record { number = number; place = None } ∷ behind
  pub between : IsBetween number before behind

-- no entry of the number has a place
pub record IsGone (number : ℕ) (order : List Ordered) : Type 0 where
  pub before : List Ordered
  pub same : List Ordered
  pub behind : List Ordered
  pub is : order ≡ before ++ (same ++ behind)
  pub gone : list_all (λ entry. not (is_some entry.place)) same ≡ true
  pub between : IsBetween number before behind
