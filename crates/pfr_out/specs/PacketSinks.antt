-- The sinks of the packets, one for each capture, and what is written to them, by the places of the captures.
use Rattle.std.specs.Prelude.{◌≡◌, ◌≢◌, ◌<◌, ℕ, Bool, false, List, ◌++◌, map, IsTrue, slice_index, slice_index_or}
use Rattle.pfr_capture.specs.Device.{GrewByPart, Rose}
use Rattle.pfr_commit.specs.Emissions.{by_place}
use Rattle.pfr_commit.specs.World.{ByPlace}

-- a sink is there, and tells its bytes
abbrev pub TellsAt : List Bool → ℕ → Type 0
TellsAt told place = IsTrue (slice_index_or told place false)

-- each sink that tells its bytes grew by its text
abbrev pub EachGrew : {S : Type 0} → (told : S → Bool) → (written : S → List ℕ) → (old new : List S) → (texts : ByPlace) → Type 0
EachGrew told written old new texts =
    (place : ℕ) → TellsAt (map told old) place → by_place (map written new) place ≡ by_place (map written old) place ++ texts place

-- A sink took a part of its text, without at least the last byte. The sinks before it took their texts, and those after
-- it nothing. Each of these facts holds if the sink that it speaks of tells its bytes.
pub record OneTookPart {S : Type 0} (told : S → Bool) (written : S → List ℕ) (old new : List S) (texts : ByPlace) (at : ℕ) : Type 0 where
  pub part : TellsAt (map told old) at → GrewByPart (by_place (map written old) at) (by_place (map written new) at) (texts at)
  pub before : (place : ℕ) → TellsAt (map told old) place → place < at → by_place (map written new) place ≡ by_place (map written old) place ++ texts place
  pub behind : (place : ℕ) → TellsAt (map told old) place → at < place → by_place (map written new) place ≡ by_place (map written old) place

-- the count of failures of one sink rose, and those of the others stayed
pub record OneRose (at : ℕ) (old new : List ℕ) : Type 0 where
  pub rose : Rose (slice_index old at) (slice_index new at)
  pub others : (place : ℕ) → place ≢ at → slice_index new place ≡ slice_index old place
