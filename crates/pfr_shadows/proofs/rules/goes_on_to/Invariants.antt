use Rattle.std.proofs.Common.{◌≡◌, drop}
use Rattle.pfr_shadows.specs.Shadows.{goes_on_to}
use Rattle.pfr_shadows.proofs.rules.goes_on_to.Given as goal

abbrev pub invariant-loop-anchor : goal.invariant-loop-anchor
invariant-loop-anchor l = goes_on_to (drop l.anchor-index l.anchors) l.first l.second ≡ goes_on_to l.anchors l.first l.second
