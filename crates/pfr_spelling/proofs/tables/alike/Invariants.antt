use Rattle.std.proofs.Common.{◌≡◌, ◌≤◌, ◌+◌, drop}
use Rattle.pfr_spelling.specs.Tables as spec
use Rattle.pfr_spelling.proofs.tables.alike.Given as goal

abbrev pub invariant-loop-table : goal.invariant-loop-table
invariant-loop-table l = (l.count + spec.alike (drop l.table-index l.tables) l.plain ≡ spec.alike l.tables l.plain) × (l.count ≤ l.table-index)
