-- What several captures give, one event after the other, and which of two events comes first.
use Rattle.std.specs.Prelude.{ℕ, suc, ◌*◌, Bool, true, false, ◌&&◌, ◌||◌, ◌==◌, nat_lt, List, [], ◌∷◌, ◌++◌, map, Result, Ok, Err}
use Rattle.pfr_capture.specs.declared.capture.CaptureError.{CaptureError}
use Rattle.pfr_capture.specs.declared.capture.Form.{Form}
use Rattle.pfr_capture.specs.declared.capture.Resolution.{Resolution}
use Rattle.pfr_capture.specs.declared.capture.Resolution.TheVariants.{Microseconds, Nanoseconds}
use Rattle.pfr_capture.specs.declared.capture.Tail.{Tail}
use Rattle.pfr_capture.specs.Records.{RecordBytes, seconds_of, fraction_of}
use Rattle.pfr_merge.specs.declared.time.Time.{Time}

-- ---- time

-- a fraction of a second, counted in nanoseconds
abbrev pub nanoseconds_of : Resolution → ℕ → ℕ
nanoseconds_of Microseconds fraction = fraction * 1000
nanoseconds_of Nanoseconds fraction = fraction

-- when a record of a capture of this form was captured
abbrev pub time_of : Form → RecordBytes → Time
time_of form r = record {
  seconds = seconds_of form.order r.header;
  nanoseconds = nanoseconds_of form.resolution (fraction_of form.order r.header);
}

-- one time is earlier than another: by its second, and in one second by its nanoseconds
abbrev pub is_before : Time → Time → Bool
is_before a b = nat_lt a.seconds b.seconds || (a.seconds == b.seconds && nat_lt a.nanoseconds b.nanoseconds)

-- ---- events

-- a record of one of several captures
pub record Arrived : Type 0 where
  -- the place of its capture in the list of captures
  pub place : ℕ
  -- the link type of its capture
  pub link : ℕ
  pub time : Time
  pub packet : RecordBytes

-- what a capture gives: a record, or behind its last one why it is refused, with its place
pub data Event : Type 0 where
  came : Arrived → Event
  refused : ℕ → CaptureError → Event

-- which of two events has to come first, if it matters: a refusal goes before every record, and of two records the earlier one
unfoldable pub comes_before : Event → Event → Bool
comes_before (came a) (came b) = is_before a.time b.time
comes_before (refused place e) (came b) = true
comes_before (came a) (refused place e) = false
comes_before (refused place e) (refused other f) = false

-- a record of the capture at a place
abbrev pub arrived : ℕ → Form → RecordBytes → Arrived
arrived place form r = record { place = place; link = form.link; time = time_of form r; packet = r }

abbrev pub event_of : ℕ → Form → RecordBytes → Event
event_of place form r = came (arrived place form r)

-- how the events of the capture at a place end
abbrev pub last_event : ℕ → Result Tail CaptureError → List Event
last_event place (Ok tail) = []
last_event place (Err e) = refused place e ∷ []

-- a capture: its form, its records and its end
pub record Captured : Type 0 where
  pub form : Form
  pub records : List RecordBytes
  pub ending : Result Tail CaptureError

-- the events of a capture that stands at a place of the list of captures
abbrev pub events_of : ℕ → Captured → List Event
events_of place c = map (event_of place c.form) c.records ++ last_event place c.ending

-- the events of each capture; the first capture stands at a place
abbrev pub events_from : ℕ → List Captured → List (List Event)
events_from place [] = []
events_from place (c ∷ captures) = events_of place c ∷ events_from (suc place) captures
