use Rattle.std.proofs.Common.{◌≡◌, drop}
use Rattle.pfr_expand.specs.Tables as spec
use Rattle.pfr_expand.proofs.tables.Filling.add_all.Given as goal

abbrev pub invariant-loop-entry : goal.invariant-loop-entry
invariant-loop-entry l = spec.filled l.scope l.self (drop l.entry-index l.entries) ≡ spec.filled l.scope l.fn.self l.entries
