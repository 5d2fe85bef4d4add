-- Why a run stops before the end of its captures.
use Rattle.std.specs.Prelude.{ℕ}
use Rattle.pfr_capture.specs.declared.capture.CaptureError.{CaptureError}
use Rattle.pfr_capture.specs.declared.capture.CaptureError.TheVariants as capture
use Rattle.pfr_feed.specs.declared.report.Stop.{Stop}
use Rattle.pfr_feed.specs.declared.report.Stop.TheVariants as stop

-- the stop for a refusal of the capture at a place
abbrev pub stop_for : ℕ × CaptureError → ℕ → Stop
stop_for (place, capture.Read) committed = stop.Read place committed
stop_for (place, capture.Memory) committed = stop.Memory committed
stop_for (place, e) committed = stop.Capture place e committed
