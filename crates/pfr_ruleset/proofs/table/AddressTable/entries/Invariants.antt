use Rattle.std.proofs.Common.{◌≡◌, ◌++◌, map}
use Rattle.pfr_ruleset.specs.Keys.{entry_at}
use Rattle.pfr_ruleset.proofs.table.AddressTable.entries.Given as goal

abbrev pub invariant-loop-network : goal.invariant-loop-network
invariant-loop-network l = l.entries ++ map entry_at l.network-iterator ≡ l.self
