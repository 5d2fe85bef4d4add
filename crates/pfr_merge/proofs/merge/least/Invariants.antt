use Rattle.std.proofs.Common.{map}
use Rattle.pfr_merge.specs.MergeReading.{time_in}
use Rattle.pfr_merge.specs.MergeStepping.{LeastSo}
use Rattle.pfr_merge.proofs.merge.least.Given as goal

abbrev pub invariant-loop-place : goal.invariant-loop-place
invariant-loop-place l = LeastSo (map time_in l.inputs) l.place l.best
