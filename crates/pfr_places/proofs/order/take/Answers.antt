use Rattle.std.proofs.Common.{ap, List, subst, sym, ◌∙◌}
use Rattle.pfr_places.specs.declared.order.Ordered.{Ordered}
use Rattle.pfr_places.specs.Standing.{IsRankFor, IsRankOf}
use Rattle.pfr_places.proofs.ChangeLemmas.{gone, gone_there, taken}
use Rattle.pfr_places.proofs.order.take.Goals as goal

pub returns-in-Some-clause-taken : goal.returns-in-Some-clause-taken
returns-in-Some-clause-taken c =
    taken c.args.order.now.items c.args.number c.in-Ok.at c.in-Some.place c.index.result.now (subst (λ (order : List Ordered). IsRankOf c.args.number c.in-Ok.at order) c.deref.ensures.value c.in-Ok.ensures.found)
    (sym (ap (λ (entry : Ordered). entry.place) c.index.ensures) ∙ c.in-Some.is)

pub returns-in-None-clause-gone : goal.returns-in-None-clause-gone
returns-in-None-clause-gone c =
    gone_there c.args.order.now.items c.args.number c.in-Ok.at c.index.result.now (subst (λ (order : List Ordered). IsRankOf c.args.number c.in-Ok.at order) c.deref.ensures.value c.in-Ok.ensures.found)
    (sym (ap (λ (entry : Ordered). entry.place) c.index.ensures) ∙ c.in-None.is)

pub returns-in-Err-clause-gone : goal.returns-in-Err-clause-gone
returns-in-Err-clause-gone c = gone c.args.order.now.items c.args.number c.in-Err.field-0 (subst (λ (order : List Ordered). IsRankFor c.args.number c.in-Err.field-0 order) c.deref.ensures.value c.in-Err.ensures.absent)
