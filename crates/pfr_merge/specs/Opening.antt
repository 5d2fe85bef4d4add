-- How the captures of several sources are opened, one after the other.
use Rattle.std.specs.Prelude.{◌≡◌, ◌≢◌, ◌<◌, ◌+◌, ℕ, Bool, List, [], ◌∷◌, length, take, Some, None, slice_get, Err, ⊤}
use Rattle.pfr_capture.specs.declared.capture.CaptureError.{CaptureError}
use Rattle.pfr_capture.specs.declared.capture.CaptureError.TheVariants.{Memory, Read, RecordTooLong}
use Rattle.pfr_capture.specs.Device.{Rose}
use Rattle.pfr_capture.specs.Header.{opening_of}
use Rattle.pfr_capture.specs.Reading.{Opens, Reading}
use Rattle.pfr_merge.specs.MergeReading.{AllTold, HasMerged, MayFollowAll, Waiting, joined}
use Rattle.pfr_merge.specs.MergedCaptures.{AreOpened}

-- readers have given no record yet
abbrev pub AreFresh : List Reading → Type 0
AreFresh [] = ⊤
AreFresh (reading ∷ readings) = (reading.over ≡ None) × (reading.count ≡ 0) × AreFresh readings

-- the first sources are opened, and the others are as they were
abbrev pub HaveOpened : List Reading → (befores lefts : List (List ℕ)) → Type 0
HaveOpened [] befores lefts = befores ≡ lefts
HaveOpened (reading ∷ readings) (before ∷ befores) (left ∷ lefts) = Opens before left reading × HaveOpened readings befores lefts
HaveOpened _ _ _ = ⊥

-- the same, if all sources tell their bytes
abbrev pub OpensEach : List Bool → (befores lefts : List (List ℕ)) → List Reading → Type 0
OpensEach told befores lefts readings = AllTold told → HaveOpened readings befores lefts

-- a merge was opened on sources, and has given no record
pub record MergeOpens (befores lefts : List (List ℕ)) (ws : List Waiting) : Type 0 where
  pub came : List (List ℕ)
  pub gave : befores ≡ joined came lefts
  pub has : HasMerged ws came []
  pub follow : MayFollowAll ws lefts

-- the capture at a place is the first whose header is refused
pub record IsRefusedAt (texts : List (List ℕ)) (place : ℕ) (e : CaptureError) : Type 0 where
  pub text : List ℕ
  pub stands : slice_get texts place ≡ Some text
  pub says : opening_of text ≡ Err e
  pub before : AreOpened (take place texts)

-- not all of the header's 24 bytes of the capture at a place had come, and the captures before it were opened
pub record IsShortAt (befores lefts : List (List ℕ)) (place : ℕ) : Type 0 where
  pub text : List ℕ
  pub left : List ℕ
  pub stands : slice_get befores place ≡ Some text
  pub stays : slice_get lefts place ≡ Some left
  pub early : length text < 24 + length left
  pub before : AreOpened (take place befores)

-- What a stop says of the sources' bytes. Want of memory says nothing of them, and a record is refused only behind its header.
abbrev pub OpeningStops : (befores lefts : List (List ℕ)) → ℕ × CaptureError → Type 0
OpeningStops befores lefts (place, Read) = IsShortAt befores lefts place
OpeningStops befores lefts (place, Memory) = ⊤
OpeningStops befores lefts (place, RecordTooLong asked) = ⊥
OpeningStops befores lefts (place, e) = IsRefusedAt befores place e

-- the count of failures of the source at a place rose, and those of the others stayed
pub record OneFailed (place : ℕ) (olds news : List ℕ) : Type 0 where
  pub old : ℕ
  pub new : ℕ
  pub was : slice_get olds place ≡ Some old
  pub is : slice_get news place ≡ Some new
  pub rose : Rose old new
  pub others : (k : ℕ) → k ≢ place → slice_get news k ≡ slice_get olds k

-- with which refusals an opening stops, and what they say of the sources' counts of failures
abbrev pub OpeningFails : (olds news : List ℕ) → ℕ × CaptureError → Type 0
OpeningFails olds news (place, Read) = OneFailed place olds news
OpeningFails olds news (place, RecordTooLong asked) = ⊥
OpeningFails olds news (place, e) = news ≡ olds

-- the same of a refusal behind the headers
abbrev pub ReadingFails : (olds news : List ℕ) → ℕ × CaptureError → Type 0
ReadingFails olds news (place, Read) = OneFailed place olds news
ReadingFails olds news (place, Memory) = news ≡ olds
ReadingFails olds news (place, RecordTooLong asked) = news ≡ olds
ReadingFails olds news (place, e) = ⊥
