use Rattle.std.proofs.Common.{◌≡◌, [], drop}
use Rattle.pfr_spelling.specs.Tables as spec
use Rattle.pfr_spelling.proofs.tables.tables.Given as goal

abbrev pub invariant-loop-at : goal.invariant-loop-at
invariant-loop-at l = spec.tables_from l.found (drop l.at l.marks) ≡ spec.tables_from [] l.marks
