use Rattle.std.proofs.Common.{◌≡◌, drop}
use Rattle.pfr_merge.specs.MergeReading.{merged_tail}
use Rattle.pfr_merge.proofs.merge.joint_tail.Given as goal

abbrev pub invariant-loop-input : goal.invariant-loop-input
invariant-loop-input l = merged_tail l.inputs ≡ merged_tail (drop l.input-index l.inputs)
