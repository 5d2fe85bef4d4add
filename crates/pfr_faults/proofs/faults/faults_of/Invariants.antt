use Rattle.std.proofs.Common.{◌≡◌, ◌++◌}
use Rattle.pfr_faults.specs.Faults as spec
use Rattle.pfr_faults.specs.Leaving.{all_left}
use Rattle.pfr_faults.proofs.faults.faults_of.Given as goal

abbrev pub invariant-loop-left : goal.invariant-loop-left
invariant-loop-left l = l.found ++ spec.faults_from l.left l.words l.interfaces ≡ spec.faults_from 100 (all_left l.marks) l.interfaces

abbrev pub decreases-loop-left : goal.decreases-loop-left
decreases-loop-left l = l.left
