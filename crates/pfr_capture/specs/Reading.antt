-- A reader of captures between two calls, and what a call may do to it.
use Rattle.std.specs.Prelude.{◌≡◌, ℕ, ◌+◌, ◌^◌, ◌<◌, ◌≤◌, List, [], ◌∷◌, ◌++◌, length, Option, Some, None, IfNone, IfSome, Result, Ok, Err, ⊤}
use Rattle.std.specs.List.{flat_map, All}
use Rattle.pfr_capture.specs.declared.capture.Form.{Form}
use Rattle.pfr_capture.specs.declared.capture.Tail.{Tail}
use Rattle.pfr_capture.specs.declared.capture.Tail.TheVariants.{Clean}
use Rattle.pfr_capture.specs.declared.capture.Record.{Record}
use Rattle.pfr_capture.specs.declared.capture.CaptureError.{CaptureError}
use Rattle.pfr_capture.specs.declared.capture.CaptureError.TheVariants.{RecordTooLong, Read, Memory}
use Rattle.pfr_capture.specs.Device.{Rose}
use Rattle.pfr_capture.specs.Header.{form_of, opening_of}
use Rattle.pfr_capture.specs.Records.{RecordBytes, text_of, IsRecord, IsCapture, EndsAs, seconds_of, fraction_of}

pub record Reading : Type 0 where
  pub form : Form
  -- the 24 bytes of the capture's header
  pub header : List ℕ
  -- how many records were given
  pub count : ℕ
  -- how reading ended, if it has
  pub over : Option (Result Tail CaptureError)
  -- the bytes that came from the source and were not given yet
  pub ahead : List ℕ

-- of a text that begins with the bytes read, the reader has given these records and no others
pub record HasGiven (reading : Reading) (read : List ℕ) (records : List RecordBytes) : Type 0 where
  pub read_is : read ≡ reading.header ++ (flat_map text_of records ++ reading.ahead)
  pub header_length : length reading.header ≡ 24
  pub says : form_of reading.header ≡ Ok reading.form
  pub each : All (IsRecord reading.form.order) records
  pub counted : length records ≡ reading.count
  pub at_most : reading.count ≤ 2 ^ 40

-- the source gave bytes
pub record Gave (before left : List ℕ) : Type 0 where
  pub came : List ℕ
  pub gave : before ≡ came ++ left

-- a reader was opened on a source
pub record Opens (before left : List ℕ) (reading : Reading) : Type 0 where
  pub came : List ℕ
  pub gave : before ≡ came ++ left
  pub given : HasGiven reading came []

-- a call read on: whatever the reader has given, it has now given that and these records
pub record ReadsOn (old new : Reading) (before left : List ℕ) (given : List RecordBytes) : Type 0 where
  pub came : List ℕ
  pub gave : before ≡ came ++ left
  pub on : (read : List ℕ) (records : List RecordBytes) → HasGiven old read records → HasGiven new (read ++ came) (records ++ given)

-- a record as its bytes
abbrev pub bytes_of : Record → RecordBytes
bytes_of r = record { header = r.header; bytes = r.bytes.items }

-- the records that an answer of the reader gives
abbrev pub given_by : Result (Option Record) CaptureError → List RecordBytes
given_by (Ok (Some r)) = bytes_of r ∷ []
given_by (Ok None) = []
given_by (Err e) = []

-- the fields of a record are those of its header, and it is of the one capture
pub record FieldsOf (form : Form) (r : Record) : Type 0 where
  pub place : r.place ≡ 0
  pub link : r.link ≡ form.link
  pub seconds : r.seconds ≡ seconds_of form.order r.header
  pub fraction : r.fraction ≡ fraction_of form.order r.header

-- how an answer changes the reader, whatever the source tells
abbrev pub Answers : Reading → Reading → Result (Option Record) CaptureError → Type 0
Answers old new (Ok (Some r)) = (new.over ≡ None) × (old.count < 2 ^ 40) × (new.count ≡ old.count + 1) × FieldsOf old.form r
Answers old new (Ok None) = (tail : Tail) × (new.over ≡ Some (Ok tail)) × (new.count ≡ old.count)
Answers old new (Err e) = (new.over ≡ Some (Err e)) × (new.count ≡ old.count)

-- the answer of a reader whose reading is over
abbrev pub answer_again : Result Tail CaptureError → Result (Option Record) CaptureError
answer_again (Ok tail) = Ok None
answer_again (Err e) = Err e

-- what was read, followed by `before`, is a capture of the records given so far, which ends with `ending`
abbrev pub EndsCapture : Reading → List ℕ → Result Tail CaptureError → Type 0
EndsCapture reading before ending = (read : List ℕ) (records : List RecordBytes) → HasGiven reading read records → IsCapture (read ++ before) reading.form records ending

-- if a call gives no record, the capture ends as its reading does
abbrev pub EndsReading : (old new : Reading) → List ℕ → Option Record → Type 0
EndsReading old new before found = IfNone found (IfSome new.over (EndsCapture old before))

-- the tail of a reader whose reading ended at the end of the capture, and Clean for any other
abbrev pub tail_of : Option (Result Tail CaptureError) → Tail
tail_of (Some (Ok tail)) = tail
tail_of (Some (Err e)) = Clean
tail_of None = Clean

-- a header is refused as its text says; a failed read and want of memory say nothing of the text
abbrev pub RefusesHeader : List ℕ → CaptureError → Type 0
RefusesHeader text Read = ⊤
RefusesHeader text Memory = ⊤
RefusesHeader text e = opening_of text ≡ Err e

-- if reading failed or memory was refused, not all of the header's 24 bytes had come
abbrev pub StopsEarly : List ℕ → List ℕ → CaptureError → Type 0
StopsEarly before left Read = length before < 24 + length left
StopsEarly before left Memory = length before < 24 + length left
StopsEarly before left e = ⊤

-- a record is refused as too long only if the capture ends so
abbrev pub Refuses : Reading → List ℕ → CaptureError → Type 0
Refuses reading before (RecordTooLong asked) = EndsCapture reading before (Err (RecordTooLong asked))
Refuses reading before e = ⊤

-- if reading failed, the bytes that came hold no further record: there are none, or a beginning of one
abbrev pub LacksRecord : Reading → CaptureError → Type 0
LacksRecord reading Read = (tail : Tail) × EndsAs reading.form.order reading.count reading.ahead (Ok tail)
LacksRecord reading e = ⊤

-- which refusals `open` gives, and what the source's count of failures says of them
abbrev pub OpenFails : CaptureError → ℕ → ℕ → Type 0
OpenFails Read old new = Rose old new
OpenFails (RecordTooLong asked) old new = ⊥
OpenFails _ old new = new ≡ old

-- which refusals `next` gives, and what the source's count of failures says of them
abbrev pub NextFails : CaptureError → ℕ → ℕ → Type 0
NextFails Read old new = Rose old new
NextFails Memory old new = new ≡ old
NextFails (RecordTooLong asked) old new = new ≡ old
NextFails _ old new = ⊥
