use Rattle.std.proofs.Common.{◌≡◌, ◌∙◌, ap, drop, subst, List, Option}
use Rattle.std.specs.Option.{option_copied}
use Rattle.pfr_places.specs.declared.order.Ordered.{Ordered}
use Rattle.pfr_places.specs.Places.{first, value_of, Placed}
use Rattle.pfr_places.specs.Standing.{held, standing, IsFrom}
use Rattle.pfr_places.proofs.KeepLemmas.{after_is}
use Rattle.pfr_places.proofs.places.Places.after.Goals as goal

pub returns : goal.returns
returns g c =
    let from = subst (λ (order : List Ordered). IsFrom c.args.number c.start_above-from.result order) c.deref.ensures.value c.start_above-from.ensures in
    let value : option_copied c.first_value.result ≡ value_of (first (standing (held c.self.inside.values.items) (drop c.start_above-from.result c.self.inside.order.items)))
    = rw (← c.deref-2.ensures.value, ← c.deref-3.ensures.value) c.first_value.ensures in
    rw (← c.self.view_is) (value ∙ ap (λ (placed : Option (Placed g.row.T.Denot)). value_of placed) (after_is c.self.invariant c.args.number c.start_above-from.result from))
