use Rattle.std.proofs.Common.{◌≡◌, ◌+◌, ◌-◌, ◌*◌}
use Rattle.pfr_terms.specs.Input.{loop_from}
use Rattle.pfr_conf.specs.Anchors as spec
use Rattle.pfr_conf.proofs.anchor.+nest.Given as goal

abbrev pub decreases-statement : goal.decreases-statement
decreases-statement l = 5 * l.depth

abbrev pub decreases-add_line : goal.decreases-add_line
decreases-add_line l = 5 * l.depth + 1

abbrev pub decreases-body : goal.decreases-body
decreases-body l = 5 * l.depth + 2

abbrev pub decreases-body_if_any : goal.decreases-body_if_any
decreases-body_if_any l = 5 * l.depth + 3

abbrev pub decreases-anchor : goal.decreases-anchor
decreases-anchor l = 5 * l.depth + 4

abbrev pub invariant-body-loop-turn : goal.invariant-body-loop-turn
invariant-body-loop-turn l =
    spec.body_lines (spec.statement l.depth) l.fn.reader ≡ loop_from (spec.body_line (spec.statement l.depth)) (l._turn-end - l._turn) l.found l.reader
