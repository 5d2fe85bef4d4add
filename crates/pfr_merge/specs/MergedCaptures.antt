-- What a merge says of the captures that it reads.
use Rattle.std.specs.Prelude.{◌≡◌, ℕ, Bool, true, false, List, [], ◌∷◌, ◌++◌, length, map, Option, Some, None, slice_get, slice_set, Result, Ok, Err, ⊤}
use Rattle.pfr_capture.specs.declared.capture.CaptureError.{CaptureError}
use Rattle.pfr_capture.specs.declared.capture.CaptureError.TheVariants.{Read, RecordTooLong}
use Rattle.pfr_capture.specs.declared.capture.Form.{Form}
use Rattle.pfr_capture.specs.declared.capture.Tail.{Tail}
use Rattle.pfr_capture.specs.declared.capture.Tail.TheVariants.{Clean}
use Rattle.pfr_capture.specs.Header.{opening_of}
use Rattle.pfr_capture.specs.Reading.{HasGiven, Reading, tail_of}
use Rattle.pfr_capture.specs.Records.{IsCapture}
use Rattle.pfr_merge.specs.Arrivals.{Arrived, Captured, Event, came, events_from, refused}
use Rattle.pfr_merge.specs.Merging.{merged}
use Rattle.pfr_merge.specs.MergeReading.{AreOver, HasMerged, LacksRecordAt, MayFollowAll, MergesOn, NoneRefused, StopsAt, Waiting, joined, merged_tail, none_waits, tail_with}

-- each text is the capture at its place
abbrev pub AreCaptures : List (List ℕ) → List Captured → Type 0
AreCaptures [] [] = ⊤
AreCaptures (text ∷ texts) (c ∷ captures) = IsCapture text c.form c.records c.ending × AreCaptures texts captures
AreCaptures _ _ = ⊥

-- all events of several captures, in the order of their merge
abbrev pub all_events : List Captured → List Event
all_events captures = merged (events_from 0 captures)

-- how they end: cut if one of them is
abbrev pub tail_of_all : List Captured → Tail
tail_of_all [] = Clean
tail_of_all (c ∷ captures) = tail_with (tail_of (Some c.ending)) (tail_of_all captures)

-- ---- what a run takes of several captures

-- the records that come before the first refusal; what stands behind it is never given
abbrev pub arrivals_in : List Event → List Arrived
arrivals_in [] = []
arrivals_in (came a ∷ events) = a ∷ arrivals_in events
arrivals_in (refused place e ∷ events) = []

-- how events end: with the first refusal, or else with this tail
abbrev pub ending_in : Tail → List Event → Result Tail (ℕ × CaptureError)
ending_in tail [] = Ok tail
ending_in tail (came a ∷ events) = ending_in tail events
ending_in tail (refused place e ∷ events) = Err (place, e)

-- captures give these records, one after the other, and end so
pub record Give (captures : List Captured) (list : List Arrived) (ending : Result Tail (ℕ × CaptureError)) : Type 0 where
  pub records : list ≡ arrivals_in (all_events captures)
  pub ends : ending ≡ ending_in (tail_of_all captures) (all_events captures)

-- each text is a capture, and together they give these records and end so
pub record TextsGive (texts : List (List ℕ)) (list : List Arrived) (ending : Result Tail (ℕ × CaptureError)) : Type 0 where
  pub captures : List Captured
  pub are : AreCaptures texts captures
  pub give : Give captures list ending

-- each text begins with a header that is accepted
abbrev pub AreOpened : List (List ℕ) → Type 0
AreOpened [] = ⊤
AreOpened (text ∷ texts) = ((form : Form) × (opening_of text ≡ Ok form)) × AreOpened texts

-- A read of the source at a place failed, behind all records of the bytes that came of it: the captures give these
-- records together, and then the failure. The other captures have what their sources have left.
pub record FailedGive (reads lefts : List (List ℕ)) (place : ℕ) (list : List Arrived) : Type 0 where
  pub captures : List Captured
  pub are : AreCaptures (joined reads (slice_set lefts place [])) captures
  pub at : Captured
  pub stands : slice_get captures place ≡ Some at
  pub give : Give (slice_set captures place (record at { ending = Err Read })) list (Err (place, Read))

-- ---- what may follow the bytes that were read

-- the end of a capture was read, or the header of a record that is too long
abbrev pub is_over : Option (Result Tail CaptureError) → Bool
is_over (Some (Ok tail)) = true
is_over (Some (Err (RecordTooLong asked))) = true
is_over _ = false

abbrev pub has_ended : Waiting → Bool
has_ended w = is_over w.reading.over

-- behind a capture that has ended comes what its source has left, and behind the others anything
abbrev pub EachFollows : List Bool → (lefts mores : List (List ℕ)) → Type 0
EachFollows [] [] [] = ⊤
EachFollows (ended ∷ more) (left ∷ lefts) (text ∷ texts) = (ended ≡ true → text ≡ left) × EachFollows more lefts texts
EachFollows _ _ _ = ⊥

-- the same of several captures; behind a single one anything may come
abbrev pub MayContinue : List Bool → (lefts mores : List (List ℕ)) → Type 0
MayContinue (ended ∷ []) (left ∷ []) (text ∷ []) = ⊤
MayContinue ended lefts mores = EachFollows ended lefts mores

-- the merge begins with these records
abbrev pub BeginsWith : List Captured → List Arrived → Type 0
BeginsWith captures given = (rest : List Event) × (all_events captures ≡ map came given ++ rest)

-- the merge has these records, and then the capture at a place is refused; what stands behind that is never given
abbrev pub StopsBehind : List Captured → List Arrived → ℕ → CaptureError → Type 0
StopsBehind captures given place e = (rest : List Event) × (all_events captures ≡ map came given ++ refused place e ∷ rest)

-- ---- from a merge's readers to its captures. The captures begin with the bytes read, and the others may follow.

-- there are such captures, whatever follows
abbrev pub ReadsCaptures : Type 0
ReadsCaptures =
    (ws : List Waiting) (reads mores : List (List ℕ)) (given : List Arrived)
    → HasMerged ws reads given
    → length mores ≡ length ws
    → (captures : List Captured) × AreCaptures (joined reads mores) captures

-- of several captures, the records given so far are the beginning
abbrev pub GivenIsTheBeginning : Type 0
GivenIsTheBeginning =
    (ws : List Waiting) (reads mores : List (List ℕ)) (given : List Arrived) (captures : List Captured)
    → HasMerged ws reads given
    → MayFollowAll ws mores
    → AreCaptures (joined reads mores) captures
    → BeginsWith captures given

-- once all captures are over, they are all records of them, and the merge tells how they end
abbrev pub GivenIsAll : Type 0
GivenIsAll =
    (ws : List Waiting) (reads mores : List (List ℕ)) (given : List Arrived) (captures : List Captured)
    → HasMerged ws reads given
    → MayFollowAll ws mores
    → AreCaptures (joined reads mores) captures
    → AreOver ws
    → (all_events captures ≡ map came given) × (tail_of_all captures ≡ merged_tail ws)

-- if a record was too long, the records given are those before that refusal
abbrev pub GivenIsAllBeforeTooLong : Type 0
GivenIsAllBeforeTooLong =
    (ws : List Waiting) (reads mores : List (List ℕ)) (given : List Arrived) (captures : List Captured) (place asked : ℕ)
    → HasMerged ws reads given
    → MayFollowAll ws mores
    → AreCaptures (joined reads mores) captures
    → StopsAt ws (place, RecordTooLong asked)
    → StopsBehind captures given place (RecordTooLong asked)

-- If a read failed, the records given are those before the failure. The failure ends its capture behind the bytes that
-- came of it: the text at its place is those bytes, and the capture there is refused for the read.
abbrev pub GivenIsAllBeforeFailure : Type 0
GivenIsAllBeforeFailure =
    (ws : List Waiting) (reads mores : List (List ℕ)) (given : List Arrived) (captures : List Captured) (place : ℕ) (c : Captured)
    → HasMerged ws reads given
    → MayFollowAll ws mores
    → AreCaptures (joined reads mores) captures
    → StopsAt ws (place, Read)
    → LacksRecordAt ws (place, Read)
    → slice_get mores place ≡ Some []
    → slice_get captures place ≡ Some c
    → StopsBehind (slice_set captures place (record c { ending = Err Read })) given place Read

-- ---- several calls

-- two calls of a merge, one after the other, read on as one call that gives the records of both
abbrev pub CallsFollow : Type 0
CallsFollow =
    (olds mids news : List Waiting) (befores middles lefts : List (List ℕ)) (one other : List Arrived)
    → MergesOn olds mids befores middles one
    → MergesOn mids news middles lefts other
    → MergesOn olds news befores lefts (one ++ other)

-- ---- the beginning

-- readers have read these bytes and given no record yet
abbrev pub HaveBegun : List Reading → List (List ℕ) → Type 0
HaveBegun [] [] = ⊤
HaveBegun (reading ∷ readings) (read ∷ reads) = (reading.over ≡ None) × HasGiven reading read [] × HaveBegun readings reads
HaveBegun _ _ = ⊥

-- a merge of such readers has given no record, none of them was refused, and any bytes may follow
abbrev pub MergeBegins : Type 0
MergeBegins =
    (readings : List Reading) (reads mores : List (List ℕ))
    → HaveBegun readings reads
    → length mores ≡ length readings
    → HasMerged (map none_waits readings) reads [] × NoneRefused (map none_waits readings) × MayFollowAll (map none_waits readings) mores
