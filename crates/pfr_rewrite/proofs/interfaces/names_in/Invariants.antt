use Rattle.std.proofs.Common.{◌≡◌, ◌++◌, drop}
use Rattle.pfr_rewrite.specs.Interfaces as spec
use Rattle.pfr_rewrite.proofs.interfaces.names_in.Given as goal

abbrev pub invariant-loop-mark : goal.invariant-loop-mark
invariant-loop-mark l = l.names ++ spec.names_in l.given l.known (drop l.mark-index l.interfaces) ≡ spec.names_in l.given l.known l.interfaces
