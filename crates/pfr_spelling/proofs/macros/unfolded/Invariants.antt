use Rattle.std.proofs.Common.{◌≡◌, ◌++◌, drop}
use Rattle.pfr_spelling.specs.Macros as spec
use Rattle.pfr_spelling.proofs.macros.unfolded.Given as goal

abbrev pub invariant-loop-at : goal.invariant-loop-at
invariant-loop-at l = l.made ++ spec.unfolded (drop l.at l.text) ≡ spec.unfolded l.text
