use Rattle.std.proofs.Common.{◌≡◌, ◌≤◌, ◌+◌, drop}
use Rattle.pfr_marks.specs.Marks as spec
use Rattle.pfr_marks.proofs.mark.column_behind.Given as goal

abbrev pub invariant-loop-byte : goal.invariant-loop-byte
invariant-loop-byte l = (spec.column_behind l.behind (drop l.byte-index l.piece) ≡ spec.column_behind l.column l.piece) × (l.behind ≤ l.column + l.byte-index)
