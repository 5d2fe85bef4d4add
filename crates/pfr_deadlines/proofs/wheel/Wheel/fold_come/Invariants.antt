use Rattle.std.proofs.Common.{take}
use Rattle.std.specs.List.{FoldsTo}
use Rattle.pfr_deadlines.specs.Wheel.{come_of, items_of}
use Rattle.pfr_deadlines.proofs.wheel.Wheel.fold_come.Given as goal

abbrev pub invariant-loop-index : goal.invariant-loop-index
invariant-loop-index g l = goal.F-IsAlwaysCallable g l.step × FoldsTo (λ before wait after. goal.F-post g l.step before wait.0 after) l.fn.start (come_of l.clock (items_of (take l.index l.self-inside.buckets.items))) l.last
