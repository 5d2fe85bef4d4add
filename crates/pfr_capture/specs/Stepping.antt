-- What stands next in a capture, by the bytes that are left of it.
use Rattle.std.specs.Prelude.{◌≡◌, ℕ, ◌+◌, ◌^◌, ◌<◌, ◌≤◌, List, [], ◌++◌, length, Result, Ok, Err, ⊤}
use Rattle.pfr_capture.specs.declared.order.ByteOrder.{ByteOrder}
use Rattle.pfr_capture.specs.declared.capture.Form.{Form}
use Rattle.pfr_capture.specs.declared.capture.Tail.{Tail}
use Rattle.pfr_capture.specs.declared.capture.CaptureError.{CaptureError}
use Rattle.pfr_capture.specs.declared.capture.CaptureError.TheVariants.{BadMagic, BadVersion, LinkType, RecordTooLong, Read}
use Rattle.pfr_capture.specs.declared.reader.Look.{Look}
use Rattle.pfr_capture.specs.declared.reader.Look.TheVariants.{Captured, End}
use Rattle.pfr_capture.specs.declared.reader.Step.{Step}
use Rattle.pfr_capture.specs.declared.reader.Step.TheVariants.{Found, Ended}
use Rattle.pfr_capture.specs.Records.{IsRecord, IsTooLong, EndsAs, captured_of, text_of}
use Rattle.pfr_capture.specs.Reading.{FieldsOf, bytes_of}

-- the header of a next record is there; its captured length is `captured`, which isn't too great
pub record HasHeader (order : ByteOrder) (count : ℕ) (ahead : List ℕ) (captured : ℕ) : Type 0 where
  pub may_follow : count < 2 ^ 40
  pub header : 16 ≤ length ahead
  pub asks : captured_of order ahead ≡ captured
  pub within : captured ≤ 262144

-- a look found such a header, or an end
abbrev pub LookSays : ByteOrder → ℕ → List ℕ → Look → Type 0
LookSays order count ahead (Captured captured) = HasHeader order count ahead captured
LookSays order count ahead (End tail) = ⊤

-- what an end says of the bytes that are left
abbrev pub LookEnds : ByteOrder → ℕ → List ℕ → Look → Type 0
LookEnds order count rest (Captured captured) = ⊤
LookEnds order count rest (End tail) = EndsAs order count rest (Ok tail)

-- all of that record is there
abbrev pub IsWhole : List ℕ → Look → Type 0
IsWhole ahead (Captured captured) = 16 + captured ≤ length ahead
IsWhole ahead (End tail) = ⊤

-- the source gave bytes, and `taken` was taken from the front of the bytes that were there and these
pub record Takes (old new before left taken : List ℕ) : Type 0 where
  pub came : List ℕ
  pub gave : before ≡ came ++ left
  pub took : old ++ came ≡ taken ++ new

-- the bytes that a step takes
abbrev pub taken_by : Result Step CaptureError → List ℕ
taken_by (Ok (Found r)) = text_of (bytes_of r)
taken_by (Ok (Ended tail)) = []
taken_by (Err e) = []

-- what a step says of the record that it found
abbrev pub StepSays : Form → ℕ → Step → Type 0
StepSays form count (Found r) = (count < 2 ^ 40) × IsRecord form.order (bytes_of r) × FieldsOf form r
StepSays form count (Ended tail) = ⊤

-- what an end says of the bytes that were left
abbrev pub StepEnds : ByteOrder → ℕ → List ℕ → Step → Type 0
StepEnds order count rest (Found r) = ⊤
StepEnds order count rest (Ended tail) = EndsAs order count rest (Ok tail)

-- a record is refused as too long only if the bytes that were left say so
abbrev pub StepRefuses : ByteOrder → ℕ → List ℕ → CaptureError → Type 0
StepRefuses order count rest (RecordTooLong asked) = IsTooLong order count rest asked
StepRefuses order count rest e = ⊤

-- if reading failed, the bytes ahead hold no record
abbrev pub StepLacks : ByteOrder → ℕ → List ℕ → CaptureError → Type 0
StepLacks order count ahead Read = (tail : Tail) × EndsAs order count ahead (Ok tail)
StepLacks order count ahead e = ⊤

-- the faults of a header's text
abbrev pub IsHeaderFault : CaptureError → Type 0
IsHeaderFault BadMagic = ⊤
IsHeaderFault BadVersion = ⊤
IsHeaderFault (LinkType link) = ⊤
IsHeaderFault _ = ⊥
