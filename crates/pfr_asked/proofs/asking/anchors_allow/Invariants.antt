use Rattle.std.proofs.Common.{◌≡◌, drop}
use Rattle.pfr_rules.specs.Filter.{is_inside}
use Rattle.pfr_asked.specs.Asking.{anchor_allows}
use Rattle.pfr_asked.proofs.asking.anchors_allow.Given as goal

abbrev pub invariant-loop-anchor : goal.invariant-loop-anchor
invariant-loop-anchor l = is_inside (anchor_allows l.name l.direction) (drop l.anchor-index l.anchors) l.place ≡ is_inside (anchor_allows l.name l.direction) l.anchors l.place
