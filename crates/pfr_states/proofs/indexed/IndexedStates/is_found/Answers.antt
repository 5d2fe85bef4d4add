use Rattle.std.proofs.Common.{◌∙◌}
use Rattle.pfr_states.specs.States.{is_found}
use Rattle.pfr_states.proofs.IndexedLemmas.{any_by_place}
use Rattle.pfr_states.proofs.indexed.IndexedStates.is_found.Goals as goal

pub returns : goal.returns
returns c = rw (← c.self.view_is) (c.is_some.ensures ∙ any_by_place (is_found c.args.side c.args.key.now c.args.scope) c.self.inside.keyed c.place_at.result c.place_at.ensures.place)
