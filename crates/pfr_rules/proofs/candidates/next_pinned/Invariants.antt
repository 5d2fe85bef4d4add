use Rattle.std.proofs.Common.{◌≡◌, length}
use Rattle.pfr_rules.specs.Candidates.{PassesBelow}
use Rattle.pfr_rules.proofs.candidates.next_pinned.Given as goal

abbrev pub invariant-loop-shape : goal.invariant-loop-shape
invariant-loop-shape l = (length l.places ≡ 16) × PassesBelow l.shape l.index l.from l.fn.places l.least l.places
