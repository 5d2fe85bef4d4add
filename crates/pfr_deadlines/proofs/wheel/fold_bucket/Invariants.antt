use Rattle.std.proofs.Common.{take}
use Rattle.std.specs.List.{FoldsTo}
use Rattle.pfr_deadlines.specs.Wheel.{come_of}
use Rattle.pfr_deadlines.proofs.wheel.fold_bucket.Given as goal

abbrev pub invariant-loop-wait : goal.invariant-loop-wait
invariant-loop-wait g l = goal.F-IsAlwaysCallable g l.step × FoldsTo (λ before wait after. goal.F-post g l.step before wait.0 after) l.fn.start (come_of l.clock (take l.wait-index l.bucket)) l.last
