use Rattle.std.proofs.Common.{◌≡◌, drop}
use Rattle.pfr_faults.specs.Leaving as spec
use Rattle.pfr_faults.proofs.leaving.at_behind_all.Given as goal

abbrev pub invariant-loop-here : goal.invariant-loop-here
invariant-loop-here l = spec.at_from l.at l.here (drop l.here l.marks) ≡ spec.at_from spec.start 0 l.marks
