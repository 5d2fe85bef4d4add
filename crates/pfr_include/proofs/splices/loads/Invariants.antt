use Rattle.std.proofs.Common.{◌≡◌, ◌++◌, drop}
use Rattle.pfr_include.specs.Splices as spec
use Rattle.pfr_include.proofs.splices.loads.Given as goal

abbrev pub invariant-loop-statement : goal.invariant-loop-statement
invariant-loop-statement l = l.found ++ spec.loads l.loadings (drop l.statement-index l.statements) ≡ spec.loads l.loadings l.statements
