use Rattle.std.proofs.Common.{◌≡◌, [], fold, take}
use Rattle.pfr_ruleset.specs.Interfaces as spec
use Rattle.pfr_ruleset.proofs.interface.own_table.Given as goal

abbrev pub invariant-loop-interface : goal.invariant-loop-interface
invariant-loop-interface l = l.table ≡ fold spec.with_own [] (take l.interface-index l.interfaces)
