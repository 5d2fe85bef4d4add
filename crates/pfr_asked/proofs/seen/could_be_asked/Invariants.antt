use Rattle.std.proofs.Common.{◌≡◌, drop}
use Rattle.pfr_asked.specs.Seen.{asks_in}
use Rattle.pfr_asked.proofs.seen.could_be_asked.Given as goal

abbrev pub invariant-loop-one : goal.invariant-loop-one
invariant-loop-one l = asks_in l.filter l.rule (drop l.one-index l.seen) ≡ asks_in l.filter l.rule l.seen
