use Rattle.std.proofs.Common.{◌≡◌, fold, take}
use Rattle.pfr_expand.specs.Tables as spec
use Rattle.pfr_expand.proofs.tables.put_own.Given as goal

abbrev pub invariant-loop-interface : goal.invariant-loop-interface
invariant-loop-interface l = (l.table, l.first) ≡ fold (spec.put_own l.line l.is_negated) (l.fn.table, l.fn.fault) (take l.interface-index l.interfaces)
