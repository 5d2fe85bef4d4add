use Rattle.std.proofs.Common.{◌≡◌, drop}
use Rattle.pfr_spelling.specs.Targets as spec
use Rattle.pfr_spelling.proofs.targets.lead_len.Given as goal

abbrev pub invariant-loop-at : goal.invariant-loop-at
invariant-loop-at l = spec.lead_from l.at l.passed (drop l.at l.marks) ≡ spec.lead_from 0 0 l.marks
