use Rattle.std.proofs.Common.{◌≡◌, ◌++◌, drop}
use Rattle.pfr_include.specs.Splices as spec
use Rattle.pfr_include.proofs.splices.includes.Given as goal

abbrev pub invariant-loop-statement : goal.invariant-loop-statement
invariant-loop-statement l = l.found ++ spec.includes (drop l.statement-index l.statements) ≡ spec.includes l.statements
