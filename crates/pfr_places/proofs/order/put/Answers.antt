use Rattle.std.proofs.Common.{List, subst, sym}
use Rattle.pfr_places.specs.declared.order.Ordered.{Ordered}
use Rattle.pfr_places.specs.Standing.{IsPut, IsRankFor, IsRankOf}
use Rattle.pfr_places.proofs.ChangeLemmas.{put_new, put_over}
use Rattle.pfr_places.proofs.order.put.Goals as goal

pub returns-in-Ok-clause-done : goal.returns-in-Ok-clause-done
returns-in-Ok-clause-done c =
    put_over c.args.order.now.items c.args.number c.in-Ok.at c.args.place (subst (λ (order : List Ordered). IsRankOf c.args.number c.in-Ok.at order) c.deref.ensures.value c.in-Ok.ensures.found)

pub returns-in_ok-insert-in-Err-clause-done : goal.returns-in_ok-insert-in-Err-clause-done
returns-in_ok-insert-in-Err-clause-done c =
    subst (λ (order : List Ordered). IsPut c.args.number c.args.place c.args.order.now.items order) (sym c.in_ok-insert-in-Err.ensures.items)
    (put_new c.args.order.now.items c.args.number c.in-Err.at c.args.place (subst (λ (order : List Ordered). IsRankFor c.args.number c.in-Err.at order) c.deref.ensures.value c.in-Err.ensures.absent))
