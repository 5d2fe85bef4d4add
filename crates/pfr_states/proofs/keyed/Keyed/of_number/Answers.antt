use Rattle.std.proofs.Common.{◌∙◌, sym}
use Rattle.pfr_places.specs.Places.{is_number}
use Rattle.pfr_states.proofs.KeyedLemmas.{value_there}
use Rattle.pfr_states.proofs.keyed.Keyed.of_number.Goals as goal

pub returns-clause-stored : goal.returns-clause-stored
returns-clause-stored c = c.get.ensures.stored ∙ value_there c.args.self.now c.get.ensures.states.own_places (is_number c.args.number.0) c.in_ok-place.place (sym c.place_of.ensures.place ∙ c.in_ok-place.was)
