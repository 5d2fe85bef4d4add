use Rattle.std.proofs.Common.{◌≡◌, fold, take}
use Rattle.pfr_expand.specs.Tables as spec
use Rattle.pfr_expand.proofs.tables.put_all.Given as goal

abbrev pub invariant-loop-hosts : goal.invariant-loop-hosts
invariant-loop-hosts l = (l.table, l.first) ≡ fold (spec.put_hosts l.interfaces l.line) (l.fn.table, l.fn.fault) (take l.hosts-index l.written)
