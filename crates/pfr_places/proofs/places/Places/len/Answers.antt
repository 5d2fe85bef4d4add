use Rattle.pfr_places.proofs.KeepLemmas.{in_order, own_places}
use Rattle.pfr_places.proofs.places.Places.len.Goals as goal

pub returns-clause-in_order : goal.returns-clause-in_order
returns-clause-in_order g c = rw (← c.self.view_is) (in_order c.self.invariant)

pub returns-clause-own_places : goal.returns-clause-own_places
returns-clause-own_places g c = rw (← c.self.view_is) (own_places c.self.invariant)
