use Rattle.pfr_places.proofs.KeepLemmas.{replaced_is, replaced_keeps}
use Rattle.pfr_places.proofs.places.Places.set.Goals as goal

pub invariant_of-self : goal.invariant_of-self
invariant_of-self g c = replaced_keeps c.self.invariant c.args.place c.args.value c.replace.ensures.there c.replace.ensures.nothing

pub returns : goal.returns
returns g c = rw (← c.self.view_is) (replaced_is c.self.invariant c.args.place c.args.value c.replace.ensures.there c.replace.ensures.nothing)
