use Rattle.std.proofs.Common.{◌∙◌, ap, subst, sym, rules, List}
use Rattle.std.proofs.lemmas.Fn.{filter_same}
use Rattle.pfr_places.specs.declared.order.Ordered.{Ordered}
use Rattle.pfr_places.specs.Standing.{held, standing, AreStanding}
use Rattle.pfr_places.proofs.KeepLemmas.{swept_is, swept_keeps}
use Rattle.pfr_places.proofs.OwnLemmas.{has_place}
use Rattle.pfr_places.proofs.places.Places.sweep.Goals as goal

pub invariant_of-self : goal.invariant_of-self
invariant_of-self g c =
    subst (λ (order : List Ordered). AreStanding c.self.inside.values.items order c.self.inside.count) (sym (filter_same _ has_place _ (λ x b q k. search rules) _ _ c.retain.ensures.filtered)) (swept_keeps c.self.invariant)

pub returns-then-self-len : goal.returns-then-self-len
returns-then-self-len g c =
    ap (λ (order : List Ordered). standing (held c.self.inside.values.items) order) (filter_same _ has_place _ (λ x b q k. search rules) _ _ c.retain.ensures.filtered) ∙ swept_is c.self.invariant ∙ c.self.view_is
