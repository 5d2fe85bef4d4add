use Rattle.std.proofs.Common.{◌≡◌, ◌≤◌, take}
use Rattle.pfr_net.specs.Notation as spec
use Rattle.pfr_net.proofs.notation.value.Given as goal

abbrev pub invariant-loop-digit : goal.invariant-loop-digit
invariant-loop-digit l = (l.value ≡ spec.capped (take l.digit-index l.digits)) × (l.value ≤ 4294967296)
