use Rattle.std.proofs.Common.{◌≡◌, drop}
use Rattle.pfr_rewrite.specs.Unseen as spec
use Rattle.pfr_rewrite.proofs.unseen.said_in.Given as goal

abbrev pub invariant-loop-at : goal.invariant-loop-at
invariant-loop-at l = spec.said_from l.known l.left (drop l.at l.rule) ≡ spec.said_from l.known l.known.left l.rule
