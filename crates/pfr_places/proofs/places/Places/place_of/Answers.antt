use Rattle.std.proofs.Common.{◌∙◌, ap, subst, sym, List}
use Rattle.pfr_places.specs.declared.order.Ordered.{Ordered}
use Rattle.pfr_places.specs.Standing.{IsRankFor, IsRankOf}
use Rattle.pfr_places.proofs.KeepLemmas.{place_absent, place_there}
use Rattle.pfr_places.proofs.places.Places.place_of.Goals as goal

pub returns-in-Ok : goal.returns-in-Ok
returns-in-Ok g c =
    let rank = subst (λ (order : List Ordered). IsRankOf c.args.number c.in-Ok.at order) c.deref.ensures.value c.in-Ok.ensures.found in
    rw (← c.self.view_is) (ap (λ (entry : Ordered). entry.place) c.index.ensures ∙ place_there c.self.invariant c.args.number c.in-Ok.at c.index.result.now rank)

pub returns-in-Err : goal.returns-in-Err
returns-in-Err g c =
    let rank = subst (λ (order : List Ordered). IsRankFor c.args.number c.in-Err.field-0 order) c.deref.ensures.value c.in-Err.ensures.absent in
    rw (← c.self.view_is) (sym (place_absent c.self.invariant c.args.number c.in-Err.field-0 rank))
