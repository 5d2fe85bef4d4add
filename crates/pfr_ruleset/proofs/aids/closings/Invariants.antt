use Rattle.pfr_ruleset.proofs.IndexLemmas.{AreClosedBelow}
use Rattle.pfr_ruleset.proofs.aids.closings.Given as goal

abbrev pub invariant-loop-opening : goal.invariant-loop-opening
invariant-loop-opening l = AreClosedBelow l.opening-index l.openings l.begins.items
