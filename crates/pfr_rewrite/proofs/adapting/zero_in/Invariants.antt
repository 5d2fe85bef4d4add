use Rattle.std.proofs.Common.{◌≡◌, drop}
use Rattle.pfr_rewrite.specs.Adapting as spec
use Rattle.pfr_rewrite.proofs.adapting.zero_in.Given as goal

abbrev pub invariant-loop-before : goal.invariant-loop-before
invariant-loop-before l = spec.zero_from l.before (drop l.before l.bytes) ≡ spec.zero_from 0 l.bytes
