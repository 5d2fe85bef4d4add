-- The places of names.
use Rattle.std.specs.Prelude.{◌≡◌, ℕ, suc, if◌then◌else◌, List, [], ◌∷◌, Option, Some, None}
use Rattle.std.specs.Str.{bytes_eq}
use Rattle.std.specs.Ordering.{nat_cmp}
use Rattle.std.specs.Cmp.Lexicographic.{slice_cmp}
use Rattle.std.specs.BTreeMap.{BTreeMap, get_by}
use Rattle.std.specs.Borrow.{Bor}

abbrev pub last_from : Option ℕ → ℕ → List ℕ → List (List ℕ) → Option ℕ
last_from found place name [] = found
last_from found place name (n ∷ names) = last_from (if bytes_eq n name then Some place else found) (suc place) name names

-- the place of the last name that is this one
abbrev pub last_place : List ℕ → List (List ℕ) → Option ℕ
last_place name names = last_from None 0 name names

-- a map that has the last place of each name
abbrev pub HasPlaces : BTreeMap (Bor (List ℕ)) ℕ → List (List ℕ) → Type 0
HasPlaces places names = (name : List ℕ) → get_by (λ k. slice_cmp nat_cmp name k.now) places ≡ last_place name names
