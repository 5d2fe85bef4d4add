use Rattle.std.proofs.Common.{◌≡◌, drop}
use Rattle.pfr_shadows.specs.Shadows.{is_open_to}
use Rattle.pfr_shadows.proofs.rules.is_open_to.Given as goal

abbrev pub invariant-loop-anchor : goal.invariant-loop-anchor
invariant-loop-anchor l = is_open_to (drop l.anchor-index l.anchors) l.first l.second ≡ is_open_to l.anchors l.first l.second
