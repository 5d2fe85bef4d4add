use Rattle.std.proofs.Common.{◌≡◌, ◌++◌, drop}
use Rattle.pfr_include.specs.Statements as spec
use Rattle.pfr_include.specs.Positions.{first}
use Rattle.pfr_include.proofs.statements.statements.Given as goal

abbrev pub invariant-loop-at : goal.invariant-loop-at
invariant-loop-at l = l.found ++ spec.statements_from l.files l.position (drop l.at l.marks) ≡ spec.statements_from l.files first l.marks
