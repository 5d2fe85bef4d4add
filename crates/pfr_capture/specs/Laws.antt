-- What the laws say.
use Rattle.std.specs.Prelude.{◌≡◌, List, ℕ, Result, Ok}
use Rattle.pfr_capture.specs.declared.capture.CaptureError.{CaptureError}
use Rattle.pfr_capture.specs.declared.capture.Form.{Form}
use Rattle.pfr_capture.specs.declared.capture.Tail.{Tail}
use Rattle.pfr_capture.specs.Records.{IsCapture, RecordBytes}
use Rattle.pfr_capture.specs.Header.{opening_of}

-- a text is a capture in one way at most
abbrev pub OneReading : Type 0
OneReading =
    (text : List ℕ) (form form2 : Form) (records records2 : List RecordBytes) (ending ending2 : Result Tail CaptureError)
    → IsCapture text form records ending
    → IsCapture text form2 records2 ending2
    → (form ≡ form2) × (records ≡ records2) × (ending ≡ ending2)

-- a text that begins with a header that is accepted is a capture
abbrev pub EveryTextReads : Type 0
EveryTextReads =
    (text : List ℕ) (form : Form)
    → opening_of text ≡ Ok form
    → (records : List RecordBytes) × (ending : Result Tail CaptureError) × IsCapture text form records ending
