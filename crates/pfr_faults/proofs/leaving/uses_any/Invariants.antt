use Rattle.std.proofs.Common.{◌≡◌, drop}
use Rattle.pfr_faults.specs.Leaving as spec
use Rattle.pfr_faults.proofs.leaving.uses_any.Given as goal

abbrev pub invariant-loop-name : goal.invariant-loop-name
invariant-loop-name l = spec.uses_any l.word (drop l.name-index l.names) ≡ spec.uses_any l.word l.names
