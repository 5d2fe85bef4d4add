use Rattle.std.proofs.Common.{◌≡◌, length}
use Rattle.pfr_rules.specs.Candidates.{IsBegun}
use Rattle.pfr_rules.proofs.candidates.begin_pinned.Given as goal

abbrev pub invariant-loop-shape : goal.invariant-loop-shape
invariant-loop-shape l = (length l.places ≡ 16) × IsBegun l.shape l.index l.packet l.least l.places
