-- What the laws of a run say.
use Rattle.std.specs.Prelude.{ℕ, Bool, List, ◌≡◌, ◌⊎◌, Some, slice_get, Err}
use Rattle.pfr_capture.specs.declared.capture.CaptureError.{CaptureError}
use Rattle.pfr_capture.specs.Header.{opening_of}
use Rattle.pfr_commit.specs.World.{Frame, world_of}
use Rattle.pfr_feed.specs.declared.report.Stop.{Stop}
use Rattle.pfr_feed.specs.declared.report.Stop.TheVariants.{Read}
use Rattle.pfr_out.specs.declared.sinks.Sinks.{Sinks}
use Rattle.pfr_feed.specs.Captures.{CapturesGive, End, headers_of}
use Rattle.pfr_out.specs.Outputs.{Outputs, Untouched}
use Rattle.pfr_out.specs.Replay.{Begins, OfEvery, Stopped, committed_of, replay_of}
use Rattle.pfr_out.specs.Spelling.{Run}

-- whatever stops a run, each output that tells its bytes has grown by a beginning of what the replay writes
abbrev pub EveryStopLeavesABeginning : Type 0
EveryStopLeavesABeginning =
    (run : Run) (batch : ℕ) (texts lefts : List (List ℕ)) (told : Sinks Bool)
    → (old new : Outputs) (stop : Stop) (frames : List Frame) (ending : End)
    → Stopped run batch texts lefts told old new stop
    → CapturesGive texts frames ending
    → Begins told old new (replay_of (headers_of texts) run (world_of run.job frames) ending)

-- if a read failed, that holds for the replay of all captures that begin with the bytes read
abbrev pub AFailedReadLeavesABeginning : Type 0
AFailedReadLeavesABeginning =
    (run : Run) (batch : ℕ) (texts lefts : List (List ℕ)) (told : Sinks Bool)
    → (old new : Outputs) (place committed : ℕ)
    → Stopped run batch texts lefts told old new (Read place committed)
    → Untouched told old new
    ⊎ OfEvery texts lefts (λ headers frames ending. Begins told old new (replay_of headers run (world_of run.job frames) ending))

-- if the header of a source is refused, nothing is written and no packet is committed
abbrev pub ARefusedHeaderLeavesNothing : Type 0
ARefusedHeaderLeavesNothing =
    (run : Run) (batch : ℕ) (texts lefts : List (List ℕ)) (told : Sinks Bool) (old new : Outputs) (stop : Stop)
    → (place : ℕ) (text : List ℕ) (refusal : CaptureError)
    → slice_get texts place ≡ Some text
    → opening_of text ≡ Err refusal
    → Stopped run batch texts lefts told old new stop
    → Untouched told old new × (committed_of stop ≡ 0)
