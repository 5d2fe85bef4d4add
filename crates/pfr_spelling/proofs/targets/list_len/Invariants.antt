use Rattle.std.proofs.Common.{◌≡◌, drop}
use Rattle.pfr_spelling.specs.Targets as spec
use Rattle.pfr_spelling.proofs.targets.list_len.Given as goal

abbrev pub invariant-loop-before : goal.invariant-loop-before
invariant-loop-before l = spec.list_from l.before (drop l.before l.marks) ≡ spec.list_from 0 l.marks
