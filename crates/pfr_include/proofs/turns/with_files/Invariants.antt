use Rattle.std.proofs.Common.{◌≡◌}
use Rattle.pfr_include.specs.Splicing.{itself}
use Rattle.pfr_include.specs.Turns as spec
use Rattle.pfr_include.proofs.turns.with_files.Given as goal

abbrev pub invariant-loop-left : goal.invariant-loop-left
invariant-loop-left l = spec.turns l.left l.files l.made ≡ spec.turns 16 l.files (itself l.text)

abbrev pub decreases-loop-left : goal.decreases-loop-left
decreases-loop-left l = l.left
