use Rattle.std.proofs.Common.{ap, arith, ltb-true}
use Rattle.pfr_places.specs.declared.order.Ordered.{Ordered}
use Rattle.pfr_places.proofs.OrderLemmas.{below_last}
use Rattle.pfr_places.proofs.order.is_last.Goals as goal

pub returns-in-Some : goal.returns-in-Some
returns-in-Some c = λ it.
    let below = ltb-true c.in-Some.last.now.number c.args.number it in
    let item = c.in-Some.ensures.item.3.1 in
    below_last c.args.order.now c.args.number c.requires (λ d. let same = ap (λ (entry : Ordered). entry.number) (item d) in omega (arith, below, same))
