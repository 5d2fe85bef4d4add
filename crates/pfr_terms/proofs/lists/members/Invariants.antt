use Rattle.std.proofs.Common.{◌≡◌, ◌-◌}
use Rattle.pfr_terms.specs.Input.{loop_from}
use Rattle.pfr_terms.specs.Lists as spec
use Rattle.pfr_terms.proofs.lists.members.Given as goal

abbrev pub invariant-loop-turn : goal.invariant-loop-turn
invariant-loop-turn g l = spec.members g.T.Item.parser l.fn.reader ≡ loop_from (spec.member g.T.Item.parser) (l._turn-end - l._turn) l.found l.reader
