-- Which of the records that wait is the next one of a merge.
use Rattle.std.specs.Prelude.{◌≡◌, ℕ, ◌<◌, true, false, List, Option, Some, None, MatchOption, slice_get, slice_set}
use Rattle.pfr_capture.specs.declared.capture.Record.{Record}
use Rattle.pfr_capture.specs.Reading.{bytes_of}
use Rattle.pfr_merge.specs.declared.time.Time.{Time}
use Rattle.pfr_merge.specs.Arrivals.{is_before, time_of}
use Rattle.pfr_merge.specs.MergeReading.{IsOfCapture, Waiting, time_in}

-- of the first n captures the one at a place has the earliest record that waits; of equally early ones it is the first
pub record IsLeast (times : List (Option Time)) (n place : ℕ) (time : Time) : Type 0 where
  pub within : place < n
  pub stands : slice_get times place ≡ Some (Some time)
  pub first : (k : ℕ) (other : Time) → k < place → slice_get times k ≡ Some (Some other) → is_before time other ≡ true
  pub least : (k : ℕ) (other : Time) → place < k → k < n → slice_get times k ≡ Some (Some other) → is_before other time ≡ false

-- none of the first n captures has a record that waits
abbrev pub NoneWaits : List (Option Time) → ℕ → Type 0
NoneWaits times n = (k : ℕ) (time : Time) → k < n → slice_get times k ≡ Some (Some time) → ⊥

abbrev pub LeastSo : List (Option Time) → ℕ → Option (ℕ × Time) → Type 0
LeastSo times n best = MatchOption best (NoneWaits times n) (λ item. IsLeast times n item.0 item.1)

-- the record at a place is taken, which is the next one
pub record TakesNext (old new : List Waiting) (place : ℕ) (r : Record) : Type 0 where
  pub from : Waiting
  pub stands : slice_get old place ≡ Some from
  pub head : from.head ≡ Some (bytes_of r)
  pub fields : IsOfCapture place from.reading.form r
  pub rest : new ≡ slice_set old place (record from { head = None })
  pub first : (k : ℕ) (w : Waiting) (time : Time)
      → k < place
      → slice_get old k ≡ Some w
      → time_in w ≡ Some time
      → is_before (time_of from.reading.form (bytes_of r)) time ≡ true
  pub least : (k : ℕ) (w : Waiting) (time : Time)
      → place < k
      → slice_get old k ≡ Some w
      → time_in w ≡ Some time
      → is_before time (time_of from.reading.form (bytes_of r)) ≡ false

-- no record waits
abbrev pub HaveNone : List Waiting → Type 0
HaveNone ws = (k : ℕ) (w : Waiting) → slice_get ws k ≡ Some w → w.head ≡ None
