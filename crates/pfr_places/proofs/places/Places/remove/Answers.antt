use Rattle.std.proofs.Common.{◌∙◌, ap, sym, rules, List}
use Rattle.pfr_places.specs.declared.order.Ordered.{Ordered}
use Rattle.pfr_places.specs.Standing.{held, standing}
use Rattle.pfr_places.proofs.KeepLemmas.{gone_is, taken_is, taken_keeps, taken_some_left, taken_within}
use Rattle.pfr_places.proofs.places.Places.remove.Goals as goal

pub index_mut-requires : goal.index_mut-requires
index_mut-requires g c = let within = taken_within c.self.invariant c.in-Some.ensures.taken in search rules

pub overflow_sub-self : goal.overflow_sub-self
overflow_sub-self g c = taken_some_left c.self.invariant c.in-Some.ensures.taken

pub invariant_of-self : goal.invariant_of-self
invariant_of-self g c = taken_keeps c.self.invariant c.in-Some.ensures.taken

pub returns-in-Some : goal.returns-in-Some
returns-in-Some g c = rw (← c.self.view_is) (taken_is c.self.invariant c.in-Some.ensures.taken)

pub returns-in_default : goal.returns-in_default
returns-in_default g c =
    rw (← c.self.view_is) (ap (λ (order : List Ordered). standing (held c.self.inside.values.items) order) c.in_default.ensures.kept ∙ sym (gone_is c.self.invariant c.in_default.ensures.gone))
