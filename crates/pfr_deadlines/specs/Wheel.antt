-- Waits in buckets, by the second at which they come up.
use Rattle.std.specs.Prelude.{◌≡◌, ◌⊎◌, ℕ, ◌<◌, ◌≤◌, ◌+◌, ◌-◌, ◌%◌, Bool, nat_le, List, length, slice_index_or}
use Rattle.std.specs.List.{All, Contains, filter, flat_map}
use Rattle.std.specs.declared.cmp.Reverse.{Reverse}
use Rattle.std.specs.declared.vec.Vec.{Vec}
use Rattle.std.specs.declared.alloc.Global.{Global}
use Rattle.pfr_track.specs.declared.time.Clock.{Clock}
use Rattle.pfr_deadlines.specs.Waits.{IsFrom, Wait}

abbrev pub Bucket : Type 0
Bucket = Vec (Reverse Wait) Global

-- what contracts see of a wheel
pub record Turning : Type 0 where
  pub items : List (Reverse Wait)
  pub bound : ℕ

abbrev pub items_of : List Bucket → List (Reverse Wait)
items_of buckets = flat_map (λ bucket. bucket.items) buckets

abbrev pub IsItemFrom : ℕ → Reverse Wait → Type 0
IsItemFrom bound wait = IsFrom bound wait.0

-- each of the first is one of the second
abbrev pub IsPart : List (Reverse Wait) → List (Reverse Wait) → Type 0
IsPart fewer all = (wait : Reverse Wait) → Contains fewer wait → Contains all wait

-- a wait stands in the bucket of its second
pub record StandsIn (bound index : ℕ) (wait : Reverse Wait) : Type 0 where
  pub from : bound ≤ wait.0.0.0
  pub own : wait.0.0.0 % 256 ≡ index

abbrev pub StandRight : ℕ → List Bucket → Type 0
StandRight bound buckets = (i : ℕ) (d : Bucket) → i < length buckets → All (StandsIn bound i) (slice_index_or buckets i d).items

-- each bucket keeps only waits that were in it
abbrev pub ArePart : List Bucket → List Bucket → Type 0
ArePart fewer all = (length fewer ≡ length all) × ((i : ℕ) (d : Bucket) → IsPart (slice_index_or fewer i d).items (slice_index_or all i d).items)

-- the same, except for one wait that may be in a bucket now
abbrev pub ArePartBut : ℕ → Reverse Wait → List Bucket → List Bucket → Type 0
ArePartBut index wait after all = (length after ≡ length all) × ((i : ℕ) (d : Bucket) (other : Reverse Wait) → Contains (slice_index_or after i d).items other → Contains (slice_index_or all i d).items other ⊎ ((i ≡ index) × (wait ≡ other)))

-- nothing of a bucket comes up before the second `end`
abbrev pub IsTaken : ℕ → ℕ → List Bucket → Type 0
IsTaken end index buckets = (d : Bucket) → index < length buckets → All (IsItemFrom end) (slice_index_or buckets index d).items

-- nothing of the buckets of the seconds from `from` up to `end` does
abbrev pub AreTaken : ℕ → ℕ → List Bucket → Type 0
AreTaken from end buckets = (ahead : ℕ) → ahead < end - from → ahead < 256 → IsTaken end ((from + ahead) % 256) buckets

abbrev pub has_come : Clock → Reverse Wait → Bool
has_come clock wait = nat_le wait.0.0.0 clock.0

-- the waits that have come at a clock
abbrev pub come_of : Clock → List (Reverse Wait) → List (Reverse Wait)
come_of clock waits = filter (has_come clock) waits
