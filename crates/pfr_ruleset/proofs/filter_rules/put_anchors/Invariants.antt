use Rattle.std.proofs.Common.{◌≡◌, ◌++◌, map, take}
use Rattle.pfr_ruleset.specs.Places as spec
use Rattle.pfr_ruleset.proofs.filter_rules.put_anchors.Given as goal

abbrev pub invariant-loop-anchor : goal.invariant-loop-anchor
invariant-loop-anchor l = l.out ≡ l.fn.out ++ map (spec.moved l.place) (take l.anchor-index l.anchors)
