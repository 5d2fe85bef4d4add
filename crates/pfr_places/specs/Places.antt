-- Values by rising numbers, each at a place of its own: the list of the values in the order of their numbers.
use Rattle.std.specs.Prelude.{ℕ, ◌==◌, ◌&&◌, Bool, true, not, nat_lt, if◌then◌else◌, List, [], ◌∷◌, map, Option, Some, None}
use Rattle.std.specs.List.{filter, find, list_all, list_any}
use Rattle.std.specs.Option.{option_map}
use Rattle.pfr_places.specs.declared.place.Place.{Place}

-- a value with its number and the place where it stands
pub record Placed (T : Type 0) : Type 0 where
  pub number : ℕ
  pub place : Place
  pub value : T

module _ {T : Type 0} where
  abbrev pub is_number : ℕ → Placed T → Bool
  is_number number placed = placed.number == number

  abbrev pub is_at : Place → Placed T → Bool
  is_at place placed = placed.place.0 == place.0

  -- ---- all of them

  -- the numbers rise
  abbrev pub rise : List (Placed T) → Bool
  rise [] = true
  rise (placed ∷ others) = list_all (λ other. nat_lt placed.number other.number) others && rise others

  -- no two stand at one place
  abbrev pub have_own_places : List (Placed T) → Bool
  have_own_places [] = true
  have_own_places (placed ∷ others) = not (list_any (is_at placed.place) others) && have_own_places others

  -- ---- questions

  -- what stands at a place
  abbrev pub at : Place → List (Placed T) → Option (Placed T)
  at place all = find (is_at place) all

  -- the one with a number
  abbrev pub of_number : ℕ → List (Placed T) → Option (Placed T)
  of_number number all = find (is_number number) all

  -- the one with the least number
  abbrev pub first : List (Placed T) → Option (Placed T)
  first [] = None
  first (placed ∷ others) = Some placed

  -- the one with the least number above another
  abbrev pub after : ℕ → List (Placed T) → Option (Placed T)
  after number all = find (λ placed. nat_lt number placed.number) all

  abbrev pub value_of : Option (Placed T) → Option T
  value_of placed = option_map (λ placed. placed.value) placed

  abbrev pub place_of : Option (Placed T) → Option Place
  place_of placed = option_map (λ placed. placed.place) placed

  -- ---- changes

  -- with a further one, before those of greater numbers
  abbrev pub with_placed : Placed T → List (Placed T) → List (Placed T)
  with_placed placed [] = placed ∷ []
  with_placed placed (other ∷ others) =
      if nat_lt placed.number other.number then placed ∷ other ∷ others else other ∷ with_placed placed others

  -- with another value at a place
  abbrev pub with_value : Place → T → List (Placed T) → List (Placed T)
  with_value place value all = map (λ placed. if is_at place placed then record placed { value = value } else placed) all

  -- without the one with a number
  abbrev pub without : ℕ → List (Placed T) → List (Placed T)
  without number all = filter (λ placed. not (is_number number placed)) all
