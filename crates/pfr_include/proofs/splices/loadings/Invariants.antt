use Rattle.std.proofs.Common.{◌≡◌, ◌++◌, drop}
use Rattle.pfr_include.specs.Splices as spec
use Rattle.pfr_include.proofs.splices.loadings.Given as goal

abbrev pub invariant-loop-statement : goal.invariant-loop-statement
invariant-loop-statement l = l.loadings ++ spec.loadings (drop l.statement-index l.statements) ≡ spec.loadings l.statements
