use Rattle.std.proofs.Common.{◌≤◌}
use Rattle.pfr_ruleset.proofs.MemberLemmas.{NoneFrom}
use Rattle.pfr_ruleset.proofs.table.AddressTable.has.Given as goal

abbrev pub invariant-loop-bits : goal.invariant-loop-bits
invariant-loop-bits l = (l.bits ≤ 33) × NoneFrom l.self-inside.signs l.address.0 l.bits

abbrev pub decreases-loop-bits : goal.decreases-loop-bits
decreases-loop-bits l = l.bits
