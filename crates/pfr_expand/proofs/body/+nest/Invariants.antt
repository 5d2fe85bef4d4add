use Rattle.std.proofs.Common.{◌≡◌, ◌≤◌, ◌*◌, ◌+◌, drop}
use Rattle.pfr_ruleset.specs.Places as places
use Rattle.pfr_expand.specs.Bodies as spec
use Rattle.pfr_expand.proofs.body.+nest.Given as goal

abbrev pub decreases-add_statement : goal.decreases-add_statement
decreases-add_statement l = 2 * l.depth

abbrev pub decreases-body_of : goal.decreases-body_of
decreases-body_of l = 2 * l.depth + 1

abbrev pub invariant-body_of-loop-statement : goal.invariant-body_of-loop-statement
invariant-body_of-loop-statement l =
    (spec.body_from (spec.statement l.depth l.scope l.setting) l.out (drop l.statement-index l.statements) ≡ spec.body_from (spec.statement l.depth l.scope l.setting) (spec.empty_body l.fn.labels) l.statements)
    × (l.out.count ≤ 65536) × places.ArePlaced l.out.rules l.out.anchors
