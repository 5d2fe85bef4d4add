-- The places of a list that have one key, each of which leads to the next one.
use Rattle.std.specs.Prelude.{◌≡◌, ◌≢◌, ◌+◌, ◌<◌, ◌≤◌, ℕ, List, length, slice_index_or, Some}
use Rattle.std.specs.List.{slice_get}

-- `place` is the first at or behind `from` that has the key, or the length of the list if none there has it
pub record IsNext (keys : List ℕ) (key from place : ℕ) : Type 0 where
  pub ahead : from ≤ place
  pub within : place ≤ length keys
  pub none : (k : ℕ) → from ≤ k → k < place → slice_get keys k ≢ Some key
  pub has : place < length keys → slice_get keys place ≡ Some key

-- what is kept of the places from `place` on: for each key the first of them that has it, for each of them the next one
-- with its key
pub record AreChainsFrom (place : ℕ) (keys firsts nexts : List ℕ) : Type 0 where
  pub size : length nexts ≡ length keys
  pub first : (key : ℕ) → key < length firsts → IsNext keys key place (slice_index_or firsts key 0)
  pub next : (k key : ℕ) → place ≤ k → slice_get keys k ≡ Some key → IsNext keys key (k + 1) (slice_index_or nexts k 0)

-- each key has a first place, and no place is too large for a number of 32 bits
pub record AreKeys (keys firsts : List ℕ) : Type 0 where
  pub few : length keys ≤ 4294967295
  pub below : (k key : ℕ) → slice_get keys k ≡ Some key → key < length firsts

pub record AreChains (keys firsts nexts : List ℕ) : Type 0 where
  pub keys_fit : AreKeys keys firsts
  pub chains : AreChainsFrom 0 keys firsts nexts

-- `now` is on the key's chain: the first place with the key from some place `low` on, which isn't past `from`
pub record IsOn (keys : List ℕ) (key from now : ℕ) : Type 0 where
  pub low : ℕ
  pub before : low ≤ from
  pub next : IsNext keys key low now
