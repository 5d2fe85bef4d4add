use Rattle.std.proofs.Common.{◌≡◌, ◌++◌, drop}
use Rattle.pfr_rewrite.specs.Adapting as spec
use Rattle.pfr_rewrite.proofs.adapting.names_of.Given as goal

abbrev pub invariant-loop-interface : goal.invariant-loop-interface
invariant-loop-interface l = l.names ++ spec.names_of (drop l.interface-index l.interfaces) ≡ spec.names_of l.interfaces
