use Rattle.std.proofs.Common.{◌≡◌, map}
use Rattle.pfr_merge.specs.MergeReading.{none_waits}
use Rattle.pfr_merge.proofs.merge.Merge.new.Given as goal

abbrev pub invariant-loop-capture : goal.invariant-loop-capture
invariant-loop-capture l = l.inputs.items ≡ map none_waits l.yielded
