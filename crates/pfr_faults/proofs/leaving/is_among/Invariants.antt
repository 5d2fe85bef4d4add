use Rattle.std.proofs.Common.{◌≡◌, drop}
use Rattle.pfr_faults.specs.Leaving as spec
use Rattle.pfr_faults.proofs.leaving.is_among.Given as goal

abbrev pub invariant-loop-other : goal.invariant-loop-other
invariant-loop-other l = spec.is_among l.word (drop l.other-index l.others) ≡ spec.is_among l.word l.others
