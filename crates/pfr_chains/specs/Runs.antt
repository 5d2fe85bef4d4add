-- Where the runs of a list end; some of its places begin one.
use Rattle.std.specs.Prelude.{◌≡◌, ◌<◌, ◌≤◌, ℕ, Bool, true, false, List, length, slice_index_or}

-- where the run of a place ends: behind it, with no beginning between, and at a beginning or the list's end
pub record IsRunEnd (begins : List Bool) (place end : ℕ) : Type 0 where
  pub ahead : place < end
  pub within : end ≤ length begins
  pub none : (k : ℕ) → place < k → k < end → slice_index_or begins k false ≡ false
  pub at : end < length begins → slice_index_or begins end false ≡ true

pub record AreRunEnds (begins : List Bool) (ends : List ℕ) : Type 0 where
  pub size : length ends ≡ length begins
  pub each : (place : ℕ) → place < length begins → IsRunEnd begins place (slice_index_or ends place 0)

-- ---- while they are written, from the last place on

-- the first beginning at or behind a place, or the list's end
pub record IsBeginFrom (begins : List Bool) (place end : ℕ) : Type 0 where
  pub ahead : place ≤ end
  pub within : end ≤ length begins
  pub none : (k : ℕ) → place ≤ k → k < end → slice_index_or begins k false ≡ false
  pub at : end < length begins → slice_index_or begins end false ≡ true

-- the ends of the runs of the places from one on
pub record AreRunEndsFrom (place : ℕ) (begins : List Bool) (ends : List ℕ) : Type 0 where
  pub size : length ends ≡ length begins
  pub each : (k : ℕ) → place ≤ k → k < length begins → IsRunEnd begins k (slice_index_or ends k 0)
