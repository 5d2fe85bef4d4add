-- Several captures as the packets of one run.
use Rattle.std.specs.Prelude.{◌≡◌, ℕ, List, ◌++◌, map, take, Result}
use Rattle.pfr_capture.specs.declared.capture.CaptureError.{CaptureError}
use Rattle.pfr_capture.specs.declared.capture.Tail.{Tail}
use Rattle.pfr_commit.specs.World.{Frame}
use Rattle.pfr_merge.specs.Arrivals.{Arrived}
use Rattle.pfr_merge.specs.MergedCaptures.{FailedGive, TextsGive}

-- a record as a packet of a run
abbrev pub frame_in : Arrived → Frame
frame_in a = record { place = record { 0 = a.place }; link = a.link; seconds = a.time.seconds; header = a.packet.header; bytes = a.packet.bytes }

-- how captures end: with a tail, or with the refusal of a capture and its place
abbrev pub End : Type 0
End = Result Tail (ℕ × CaptureError)

-- each text is a capture, and together they give these packets, one after the other, and end so
pub record CapturesGive (texts : List (List ℕ)) (frames : List Frame) (ending : End) : Type 0 where
  pub list : List Arrived
  pub give : TextsGive texts list ending
  pub frames_are : frames ≡ map frame_in list

-- the same if a read of the source at a place failed behind the bytes read, with all packets that come before the
-- failure
pub record CapturesFail (reads lefts : List (List ℕ)) (place : ℕ) (frames : List Frame) : Type 0 where
  pub list : List Arrived
  pub give : FailedGive reads lefts place list
  pub frames_are : frames ≡ map frame_in list

-- the headers of captures, of 24 bytes each
abbrev pub headers_of : List (List ℕ) → List (List ℕ)
headers_of texts = map (take 24) texts

-- packets begin with these
abbrev pub BeginWith : (first all : List Frame) → Type 0
BeginWith first all = (rest : List Frame) × (all ≡ first ++ rest)
