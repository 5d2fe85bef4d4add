-- A batch of records on its way from the sources.
use Rattle.std.specs.Prelude.{◌≡◌, ◌≤◌, ◌+◌, ℕ, Bool, true, false, List, length, map, Option, Some, None, Ok, Err}
use Rattle.pfr_capture.specs.declared.capture.CaptureError.TheVariants as capture
use Rattle.pfr_capture.specs.declared.capture.Record.{Record}
use Rattle.pfr_commit.specs.Emissions.{frame_of}
use Rattle.pfr_merge.specs.Arrivals.{Arrived}
use Rattle.pfr_merge.specs.MergeReading.{AllTold, AreOver, HasPassedOn, LacksRecordAt, MergesOn, NoneRefused, StopsAt, Waiting, header_in, joined, merged_tail}
use Rattle.pfr_merge.specs.Opening.{ReadingFails}
use Rattle.pfr_feed.specs.Captures.{End, frame_in}

-- a merge read on, and gave these records
pub record GaveRecords (old new : List Waiting) (befores lefts : List (List ℕ)) (records : List Record) : Type 0 where
  pub list : List Arrived
  pub records_are : map frame_of records ≡ map frame_in list
  pub on : MergesOn old new befores lefts list

-- sources gave bytes
pub record AllGave (befores lefts : List (List ℕ)) : Type 0 where
  pub came : List (List ℕ)
  pub gave : befores ≡ joined came lefts
  pub long : length lefts ≡ length befores

-- what a batch of records says of the sources
abbrev pub BatchSays : (old new : List Waiting) → (befores lefts : List (List ℕ)) → List Record → Option End → Type 0
BatchSays old new befores lefts records None = GaveRecords old new befores lefts records
BatchSays old new befores lefts records (Some (Ok tail)) = GaveRecords old new befores lefts records × AreOver new × (tail ≡ merged_tail new)
BatchSays old new befores lefts records (Some (Err (place, capture.Read))) = GaveRecords old new befores lefts records × StopsAt new (place, capture.Read) × LacksRecordAt new (place, capture.Read)
BatchSays old new befores lefts records (Some (Err (place, capture.Memory))) = AllGave befores lefts
BatchSays old new befores lefts records (Some (Err (place, capture.RecordTooLong asked))) = GaveRecords old new befores lefts records × StopsAt new (place, capture.RecordTooLong asked)
BatchSays old new befores lefts records (Some (Err (place, e))) = ⊥

-- the same, by what the sources show
abbrev pub SaysIn : {R : Type 0} → (tells : R → Bool) → (unread : R → List ℕ) → (old new : List Waiting) → (sources sources' : List R) → List Record → Option End → Type 0
SaysIn tells unread old new sources sources' records end =
    AllTold (map tells sources) → BatchSays old new (map unread sources) (map unread sources') records end

-- the reading ends since memory was refused
abbrev pub wants_memory : Option End → Bool
wants_memory (Some (Err (place, capture.Memory))) = true
wants_memory end = false

-- with which refusals a batch ends, and what it says of the sources' counts of failures
abbrev pub BatchFails : Option End → (olds news : List ℕ) → Type 0
BatchFails (Some (Err stop)) olds news = ReadingFails olds news stop
BatchFails end olds news = news ≡ olds

-- a batch of at most `most` records was read of the captures of sources, and ended with `end`
pub record ReadsBatch {R : Type 0} (tells : R → Bool) (unread : R → List ℕ) (failed : R → ℕ)
    (old new : List Waiting) (sources sources' : List R) (most : ℕ) (records : List Record) (end : Option End) : Type 0 where
  pub told : map tells sources' ≡ map tells sources
  pub captures : (length sources' ≡ length sources) × (length new ≡ length old)
  pub headers : map header_in new ≡ map header_in old
  pub at_most : length records ≤ most
  pub full : end ≡ None → length records ≡ most
  pub goes_on : end ≡ None → NoneRefused new
  pub counted : (count : ℕ) → HasPassedOn count old → HasPassedOn (count + length records) new
  pub says : SaysIn tells unread old new sources sources' records end
  pub failures : BatchFails end (map failed sources) (map failed sources')
