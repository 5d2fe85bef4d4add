use Rattle.std.proofs.Common.{◌≡◌, drop}
use Rattle.pfr_prepare.specs.Sources as spec
use Rattle.pfr_prepare.proofs.around.named.Given as goal

abbrev pub invariant-loop-interface : goal.invariant-loop-interface
invariant-loop-interface l = spec.named (drop l.interface-index l.interfaces) l.name ≡ spec.named l.interfaces l.name
