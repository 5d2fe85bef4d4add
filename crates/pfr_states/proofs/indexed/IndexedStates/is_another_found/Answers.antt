use Rattle.std.proofs.Common.{◌∙◌}
use Rattle.pfr_states.specs.Indexed.{is_another}
use Rattle.pfr_states.proofs.IndexedLemmas.{any_by_place}
use Rattle.pfr_states.proofs.indexed.IndexedStates.is_another_found.Goals as goal

pub returns : goal.returns
returns c = rw (← c.self.view_is) (c.is_some.ensures ∙ any_by_place (is_another c.args.number c.args.side c.args.key.now c.args.scope) c.self.inside.keyed c.another_at.result c.another_at.ensures.place)
