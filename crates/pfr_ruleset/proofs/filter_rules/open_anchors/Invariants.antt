use Rattle.std.proofs.Common.{◌≡◌, length, map, take}
use Rattle.pfr_ruleset.specs.Places as spec
use Rattle.pfr_ruleset.proofs.filter_rules.open_anchors.Given as goal

abbrev pub invariant-loop-anchor : goal.invariant-loop-anchor
invariant-loop-anchor l =
    (length l.openings.items ≡ length l.fn.openings.items)
    × spec.AreOpened l.fn.openings.items (map (spec.moved l.place) (take l.anchor-index l.anchors)) l.openings.items
