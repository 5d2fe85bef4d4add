use Rattle.std.proofs.Common.{◌∙◌, ap, List, Option}
use Rattle.pfr_places.specs.Standing.{held}
use Rattle.pfr_places.proofs.KeepLemmas.{at_is}
use Rattle.pfr_places.proofs.places.Places.get.Goals as goal

pub returns : goal.returns
returns g c =
    rw (← c.self.view_is) (c.value_at.ensures ∙ ap (λ (values : List (Option g.row.T.Denot)). held values c.args.place.0) c.deref.ensures.value ∙ at_is c.self.invariant c.args.place)
