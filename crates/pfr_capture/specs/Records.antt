-- The records of a capture: the classic pcap format (pcap-savefile(5)).
--
-- Behind the file's header stand its records. Each has a header of 16 bytes, seconds 4, fraction 4,
-- captured length 4, original length 4, and then the captured bytes. A capture has at most 2^40 records,
-- and a record at most 262144 captured bytes.
use Rattle.std.specs.Prelude.{◌≡◌, ℕ, ◌+◌, ◌^◌, ◌<◌, ◌≤◌, max, List, [], ◌∷◌, ◌++◌, length, drop, Result, Ok, Err}
use Rattle.std.specs.List.{flat_map, All}
use Rattle.pfr_capture.specs.declared.order.ByteOrder.{ByteOrder}
use Rattle.pfr_capture.specs.declared.capture.Form.{Form}
use Rattle.pfr_capture.specs.declared.capture.Tail.{Tail}
use Rattle.pfr_capture.specs.declared.capture.Tail.TheVariants.{Clean, Cut}
use Rattle.pfr_capture.specs.declared.capture.CaptureError.{CaptureError}
use Rattle.pfr_capture.specs.declared.capture.CaptureError.TheVariants.{RecordTooLong}
use Rattle.pfr_capture.specs.Header.{number, form_of}

-- the bytes of one record
pub record RecordBytes : Type 0 where
  pub header : List ℕ
  pub bytes : List ℕ

abbrev pub text_of : RecordBytes → List ℕ
text_of r = r.header ++ r.bytes

-- the numbers of a record's header
abbrev pub seconds_of : ByteOrder → List ℕ → ℕ
seconds_of order header = number order header

abbrev pub fraction_of : ByteOrder → List ℕ → ℕ
fraction_of order header = number order (drop 4 header)

abbrev pub captured_of : ByteOrder → List ℕ → ℕ
captured_of order header = number order (drop 8 header)

-- a record has all the bytes that its header says were captured, and not too many
pub record IsRecord (order : ByteOrder) (r : RecordBytes) : Type 0 where
  pub header_length : length r.header ≡ 16
  pub captured : length r.bytes ≡ captured_of order r.header
  pub within : length r.bytes ≤ 262144

-- a record's header is there, and its captured length is too great
pub record IsTooLong (order : ByteOrder) (count : ℕ) (rest : List ℕ) (asked : ℕ) : Type 0 where
  pub may_follow : count < 2 ^ 40
  pub header : 16 ≤ length rest
  pub asks : captured_of order rest ≡ asked
  pub above : 262144 < asked

-- there are bytes, and they don't hold a whole record, unless the capture has all the records that it may have
pub record IsCut (order : ByteOrder) (count : ℕ) (rest : List ℕ) : Type 0 where
  pub some : 0 < length rest
  pub allowed : count < 2 ^ 40 → 16 ≤ length rest → captured_of order rest ≤ 262144
  pub part : count < 2 ^ 40 → 16 ≤ length rest → length rest < 16 + captured_of order rest

-- how a capture ends after `count` records, by the bytes that are left
abbrev pub EndsAs : ByteOrder → ℕ → List ℕ → Result Tail CaptureError → Type 0
EndsAs order count rest (Ok Clean) = rest ≡ []
EndsAs order count rest (Ok Cut) = IsCut order count rest
EndsAs order count rest (Err (RecordTooLong asked)) = IsTooLong order count rest asked
EndsAs order count rest (Err _) = ⊥

-- a text is a capture: a header, records one after the other, and a rest that says how it ends
pub record IsCapture (text : List ℕ) (form : Form) (records : List RecordBytes) (ending : Result Tail CaptureError) : Type 0 where
  pub header : List ℕ
  pub rest : List ℕ
  pub whole : text ≡ header ++ (flat_map text_of records ++ rest)
  pub header_length : length header ≡ 24
  pub says : form_of header ≡ Ok form
  pub each : All (IsRecord form.order) records
  pub at_most : length records ≤ 2 ^ 40
  pub ends : EndsAs form.order (length records) rest ending

-- the clock after these records: the greatest of the clock before them and their seconds
abbrev pub clock_after : ByteOrder → ℕ → List RecordBytes → ℕ
clock_after order clock [] = clock
clock_after order clock (r ∷ rs) = clock_after order (max clock (seconds_of order r.header)) rs
