-- A merge of captures between two calls, and what a call may do to it.
use Rattle.std.specs.Prelude.{◌≡◌, ◌≢◌, ℕ, suc, ◌+◌, ◌^◌, ◌<◌, ◌≤◌, Bool, IsTrue, List, [], ◌∷◌, ◌++◌, map, Option, Some, None, slice_get, MatchOption, Result, Ok, Err, ⊤}
use Rattle.std.specs.Option.{option_map}
use Rattle.pfr_capture.specs.declared.capture.CaptureError.{CaptureError}
use Rattle.pfr_capture.specs.declared.capture.CaptureError.TheVariants.{RecordTooLong}
use Rattle.pfr_capture.specs.declared.capture.Form.{Form}
use Rattle.pfr_capture.specs.declared.capture.Record.{Record}
use Rattle.pfr_capture.specs.declared.capture.Tail.{Tail}
use Rattle.pfr_capture.specs.declared.capture.Tail.TheVariants.{Clean, Cut}
use Rattle.pfr_capture.specs.Reading.{FieldsOf, HasGiven, LacksRecord, NextFails, Reading, bytes_of, tail_of}
use Rattle.pfr_capture.specs.Records.{EndsAs, RecordBytes}
use Rattle.pfr_merge.specs.declared.time.Time.{Time}
use Rattle.pfr_merge.specs.Arrivals.{Arrived, Event, arrived, came, event_of, refused, time_of}
use Rattle.pfr_merge.specs.Merging.{merged}

-- ---- one capture of a merge

-- its reader, and the record that it has given and that waits for its turn
pub record Waiting : Type 0 where
  pub reading : Reading
  pub head : Option RecordBytes

-- a capture of which no record waits
abbrev pub none_waits : Reading → Waiting
none_waits reading = record { reading = reading; head = None }

-- the record that waits
abbrev pub waiting_in : Option RecordBytes → List RecordBytes
waiting_in None = []
waiting_in (Some r) = r ∷ []

-- how many records wait: none or one
abbrev pub waits_of : Option RecordBytes → ℕ
waits_of None = 0
waits_of (Some r) = 1

-- when that record was captured
abbrev pub time_in : Waiting → Option Time
time_in w = option_map (time_of w.reading.form) w.head

-- Of a text that begins with the bytes read, the merge has given these records of the capture at a place, and the reader has given them
-- and the one that waits.
pub record HasTaken (place : ℕ) (w : Waiting) (read : List ℕ) (taken : List Event) : Type 0 where
  pub records : List RecordBytes
  pub taken_is : taken ≡ map (event_of place w.reading.form) records
  pub given : HasGiven w.reading read (records ++ waiting_in w.head)

-- What a capture may give behind the records that its reader has given: nothing once it has ended, its refusal once a record was too
-- long, and else anything. A failed read and want of memory say nothing of the capture.
abbrev pub MayGive : ℕ → Option (Result Tail CaptureError) → List Event → Type 0
MayGive place None more = ⊤
MayGive place (Some (Ok tail)) more = more ≡ []
MayGive place (Some (Err (RecordTooLong asked))) more = more ≡ refused place (RecordTooLong asked) ∷ []
MayGive place (Some (Err e)) more = ⊤

-- what the capture at a place may still give to the merge
pub record Continues (place : ℕ) (w : Waiting) (events : List Event) : Type 0 where
  pub more : List Event
  pub is : events ≡ map (event_of place w.reading.form) (waiting_in w.head) ++ more
  pub may : MayGive place w.reading.over more

-- Which bytes may follow those that were read of a capture: any until its reading is over, and then those with which
-- the capture ends as its reading did. If it ended with the bytes of its source, no more may follow.
abbrev pub FollowsOver : Reading → List ℕ → Option (Result Tail CaptureError) → Type 0
FollowsOver reading more None = ⊤
FollowsOver reading more (Some (Ok tail)) = EndsAs reading.form.order reading.count (reading.ahead ++ more) (Ok tail)
FollowsOver reading more (Some (Err (RecordTooLong asked))) =
    EndsAs reading.form.order reading.count (reading.ahead ++ more) (Err (RecordTooLong asked))
FollowsOver reading more (Some (Err e)) = ⊤

-- which bytes may follow those that were read of a capture
abbrev pub MayFollow : Waiting → List ℕ → Type 0
MayFollow w more = FollowsOver w.reading more w.reading.over

-- its next record waits and there may be more, or it has none and ended well
abbrev pub IsSettled : Waiting → Type 0
IsSettled w = MatchOption w.head ((tail : Tail) × (w.reading.over ≡ Some (Ok tail))) (λ r. w.reading.over ≡ None)

-- no record of it waits, and it was refused
abbrev pub IsStopped : CaptureError → Waiting → Type 0
IsStopped e w = (w.head ≡ None) × (w.reading.over ≡ Some (Err e))

-- a call reads a record more, which waits then, or none; a capture has at most 2^40 records
pub record RefillCounts (old new : Waiting) : Type 0 where
  pub same : new.reading.count + waits_of old.head ≡ old.reading.count + waits_of new.head
  pub few : old.reading.count ≤ 2 ^ 40 → new.reading.count ≤ 2 ^ 40

-- a call read on in one capture, whose source gave bytes
pub record Refilled (old new : Waiting) (before left : List ℕ) : Type 0 where
  pub came : List ℕ
  pub gave : before ≡ came ++ left
  pub form_same : new.reading.form ≡ old.reading.form
  pub on : (read : List ℕ) (records : List RecordBytes)
      → HasGiven old.reading read (records ++ waiting_in old.head)
      → HasGiven new.reading (read ++ came) (records ++ waiting_in new.head)
  pub continues : (place : ℕ) (events : List Event) → Continues place new events → Continues place old events
  pub follows : (read : List ℕ) (records : List RecordBytes)
      → HasGiven old.reading read (records ++ waiting_in old.head)
      → MayFollow old before
      → MayFollow new left

-- ---- all captures of a merge

-- all sources tell their bytes
abbrev pub AllTold : List Bool → Type 0
AllTold [] = ⊤
AllTold (told ∷ more) = IsTrue told × AllTold more

-- two lists of lists, joined place by place
abbrev pub joined : {X : Type 0} → List (List X) → List (List X) → List (List X)
joined [] lists = []
joined (xs ∷ lists) [] = []
joined (xs ∷ lists) (ys ∷ others) = (xs ++ ys) ∷ joined lists others

-- `HasTaken` of each capture; the first capture stands at a place
abbrev pub HaveTaken : ℕ → List Waiting → List (List ℕ) → List (List Event) → Type 0
HaveTaken place [] [] [] = ⊤
HaveTaken place (w ∷ ws) (read ∷ reads) (taken ∷ more) = HasTaken place w read taken × HaveTaken (suc place) ws reads more
HaveTaken place _ _ _ = ⊥

-- what all of them may still give
abbrev pub Continue : ℕ → List Waiting → List (List Event) → Type 0
Continue place [] [] = ⊤
Continue place (w ∷ ws) (events ∷ lists) = Continues place w events × Continue (suc place) ws lists
Continue place _ _ = ⊥

-- which bytes may follow those that were read of each
abbrev pub MayFollowAll : List Waiting → List (List ℕ) → Type 0
MayFollowAll [] [] = ⊤
MayFollowAll (w ∷ ws) (more ∷ others) = MayFollow w more × MayFollowAll ws others
MayFollowAll _ _ = ⊥

-- a call read on in each of them
abbrev pub AllRefilled : List Waiting → List Waiting → List (List ℕ) → List (List ℕ) → Type 0
AllRefilled [] [] [] [] = ⊤
AllRefilled (old ∷ olds) (new ∷ news) (before ∷ befores) (left ∷ lefts) = Refilled old new before left × AllRefilled olds news befores lefts
AllRefilled _ _ _ _ = ⊥

-- Of captures that begin with the bytes read, the merge has given these records and no others: whatever the captures
-- may still give, the merge of all that they give is these records and then the merge of what they still give.
pub record HasMerged (ws : List Waiting) (reads : List (List ℕ)) (list : List Arrived) : Type 0 where
  pub taken : List (List Event)
  pub each : HaveTaken 0 ws reads taken
  pub order : (events : List (List Event)) → Continue 0 ws events → merged (joined taken events) ≡ map came list ++ merged events

-- A call read on: whatever the merge has given, it has now given that and these records. What the sources still have may follow what
-- was read of them, if it might before.
pub record MergesOn (old new : List Waiting) (befores lefts : List (List ℕ)) (list : List Arrived) : Type 0 where
  pub came : List (List ℕ)
  pub gave : befores ≡ joined came lefts
  pub on : (reads : List (List ℕ)) (given : List Arrived) → HasMerged old reads given → HasMerged new (joined reads came) (given ++ list)
  pub follow : (reads : List (List ℕ)) (given : List Arrived) → HasMerged old reads given → MayFollowAll old befores → MayFollowAll new lefts

-- how many records the readers have given, and how many of them wait
abbrev pub count_in_all : List Waiting → ℕ
count_in_all [] = 0
count_in_all (w ∷ ws) = w.reading.count + count_in_all ws

abbrev pub waits_in_all : List Waiting → ℕ
waits_in_all [] = 0
waits_in_all (w ∷ ws) = waits_of w.head + waits_in_all ws

-- no reader has given more than 2^40 records
abbrev pub AreFew : List Waiting → Type 0
AreFew ws = (k : ℕ) (w : Waiting) → slice_get ws k ≡ Some w → w.reading.count ≤ 2 ^ 40

-- the merge has given `count` records, or more
abbrev pub HasPassedOn : ℕ → List Waiting → Type 0
HasPassedOn count ws = (count + waits_in_all ws ≤ count_in_all ws) × AreFew ws

-- of each capture the next record waits, or it has none
abbrev pub AreSettled : List Waiting → Type 0
AreSettled ws = (k : ℕ) (w : Waiting) → slice_get ws k ≡ Some w → IsSettled w

-- no capture was refused
abbrev pub NoneRefused : List Waiting → Type 0
NoneRefused ws = (k : ℕ) (w : Waiting) (e : CaptureError) → slice_get ws k ≡ Some w → w.reading.over ≢ Some (Err e)

-- the captures have ended, and none of their records waits
abbrev pub AreOver : List Waiting → Type 0
AreOver ws = (k : ℕ) (w : Waiting) → slice_get ws k ≡ Some w → (w.head ≡ None) × (tail : Tail) × (w.reading.over ≡ Some (Ok tail))

-- the capture at a place was refused so and has no record left, and it is the first such
pub record StopsAt (ws : List Waiting) (stop : ℕ × CaptureError) : Type 0 where
  pub at : Waiting
  pub stands : slice_get ws stop.0 ≡ Some at
  pub stopped : IsStopped stop.1 at
  pub first : (k : ℕ) (w : Waiting) → k < stop.0 → slice_get ws k ≡ Some w → IsSettled w

-- ---- the answers of a merge

-- how captures end, the first of them and the others: cut if one of them is
abbrev pub tail_with : Tail → Tail → Tail
tail_with Cut others = Cut
tail_with Clean others = others

-- how the captures of a merge end
abbrev pub merged_tail : List Waiting → Tail
merged_tail [] = Clean
merged_tail (w ∷ ws) = tail_with (tail_of w.reading.over) (merged_tail ws)

-- what a capture's header says, and its 24 bytes
abbrev pub form_in : Waiting → Form
form_in w = w.reading.form

abbrev pub header_in : Waiting → List ℕ
header_in w = w.reading.header

-- A record of the capture at a place has that place, which is less than 256 in every run, and else the fields that the capture's reader
-- gives it.
pub record IsOfCapture (place : ℕ) (form : Form) (r : Record) : Type 0 where
  pub place_is : place < 256 → r.place ≡ place
  pub fields : FieldsOf form (record r { place = 0 })

-- the record that an answer gives, as one of the capture at its place
pub record IsRecordOf (ws : List Waiting) (found : ℕ × Record) (form : Form) : Type 0 where
  pub at : slice_get (map form_in ws) found.0 ≡ Some form
  pub fields : IsOfCapture found.0 form found.1

-- it has the fields that its header gives it, under its capture's form
abbrev pub HasForm : List Waiting → (ℕ × Record) → Type 0
HasForm ws found = (form : Form) × IsRecordOf ws found form

-- what a call answers: a record with its capture's place, or None, or a refusal with the place of the capture that is refused
abbrev pub Answer : Type 0
Answer = Result (Option (ℕ × Record)) (ℕ × CaptureError)

-- how many records an answer gives
abbrev pub records_in : Answer → ℕ
records_in (Ok (Some found)) = 1
records_in (Ok None) = 0
records_in (Err stop) = 0

-- how a call reads on, by its answer
abbrev pub MergeReads : (old new : List Waiting) (befores lefts : List (List ℕ)) → Answer → Type 0
MergeReads old new befores lefts (Ok (Some found)) =
    (form : Form)
    → slice_get (map form_in old) found.0 ≡ Some form
    → MergesOn old new befores lefts (arrived found.0 form (bytes_of found.1) ∷ [])
MergeReads old new befores lefts (Ok None) = MergesOn old new befores lefts []
MergeReads old new befores lefts (Err stop) = MergesOn old new befores lefts []

-- the merge is over, and answers so from then on
abbrev pub IsOverWith : List Waiting → Answer → Type 0
IsOverWith ws (Ok (Some found)) = ⊥
IsOverWith ws (Ok None) = AreOver ws
IsOverWith ws (Err stop) = StopsAt ws stop

-- if reading failed, the bytes that came of the capture hold no further record
abbrev pub LacksRecordAt : List Waiting → ℕ × CaptureError → Type 0
LacksRecordAt ws stop = (w : Waiting) → slice_get ws stop.0 ≡ Some w → LacksRecord w.reading stop.1

-- the source at a place counts the refusal as its fault says, and no other source counts one
pub record FailsAt (olds news : List ℕ) (stop : ℕ × CaptureError) : Type 0 where
  pub here : (old new : ℕ) → slice_get olds stop.0 ≡ Some old → slice_get news stop.0 ≡ Some new → NextFails stop.1 old new
  pub others : (k : ℕ) → k ≢ stop.0 → slice_get news k ≡ slice_get olds k
