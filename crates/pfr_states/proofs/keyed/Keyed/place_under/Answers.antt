use Rattle.pfr_states.proofs.KeyedLemmas.{place_found}
use Rattle.pfr_states.proofs.keyed.Keyed.place_under.Goals as goal

pub returns-clause-place : goal.returns-clause-place
returns-clause-place g c =
    λ test asks decides. place_found c.args.side c.args.key.now test c.args.self.now c.index_on.result.now.times c.index_on.ensures c.len.ensures.states.own_places asks _ decides _ c.hash_of.ensures c.find.result c.find.ensures.some c.find.ensures.none
