use Rattle.std.proofs.Common.{◌≡◌, fold, take}
use Rattle.pfr_expand.specs.Tables as spec
use Rattle.pfr_expand.proofs.tables.more_of.Given as goal

abbrev pub invariant-loop-hosts : goal.invariant-loop-hosts
invariant-loop-hosts l = l.more ≡ fold (spec.with_more l.interfaces) 0 (take l.hosts-index l.written)
