use Rattle.std.proofs.Common.{◌≡◌, ◌++◌, drop}
use Rattle.pfr_notices.specs.Named as spec
use Rattle.pfr_notices.proofs.named.missing.Given as goal

abbrev pub invariant-loop-name : goal.invariant-loop-name
invariant-loop-name l = l.missing.items ++ spec.missing l.interfaces (drop l.name-index l.names) ≡ spec.missing l.interfaces l.names
