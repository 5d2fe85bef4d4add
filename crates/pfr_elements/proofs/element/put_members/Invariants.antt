use Rattle.std.proofs.Common.{◌≡◌, ◌-◌}
use Rattle.pfr_terms.specs.Input.{loop_from}
use Rattle.pfr_elements.specs.Elements as spec
use Rattle.pfr_elements.proofs.element.put_members.Given as goal

abbrev pub invariant-loop-turn : goal.invariant-loop-turn
invariant-loop-turn g l = spec.members_behind (spec.value_item g.T.Element.kind l.scope) l.fn.found l.fn.reader ≡ loop_from (spec.value_member (spec.value_item g.T.Element.kind l.scope)) (l._turn-end - l._turn) l.found l.reader
