use Rattle.std.proofs.Common.{◌≡◌, drop}
use Rattle.pfr_rewrite.specs.Elsewhere as spec
use Rattle.pfr_rewrite.proofs.elsewhere.one_may_hold.Given as goal

abbrev pub invariant-loop-name : goal.invariant-loop-name
invariant-loop-name l = spec.one_may_hold l.own (drop l.name-index l.names) ≡ spec.one_may_hold l.own l.names
