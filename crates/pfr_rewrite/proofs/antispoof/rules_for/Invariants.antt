use Rattle.std.proofs.Common.{◌≡◌, [], drop}
use Rattle.pfr_rewrite.specs.Antispoof as spec
use Rattle.pfr_rewrite.proofs.antispoof.rules_for.Given as goal

abbrev pub invariant-loop-name : goal.invariant-loop-name
invariant-loop-name l = spec.rules_from l.given l.own l.frame l.made (drop l.name-index l.names) ≡ spec.rules_from l.given l.own l.frame [] l.names
