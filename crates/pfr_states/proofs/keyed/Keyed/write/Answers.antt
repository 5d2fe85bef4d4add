use Rattle.std.proofs.Common.{◌≡◌, List, subst, sym, true}
use Rattle.pfr_places.specs.Places.{have_own_places, rise}
use Rattle.pfr_states.specs.Keyed.{AreKeyed}
use Rattle.pfr_states.proofs.KeyedInvariants.{keyed_written}
use Rattle.pfr_states.proofs.KeyedLemmas.{Held}
use Rattle.pfr_states.proofs.keyed.Keyed.write.Goals as goal

pub invariant_of-self : goal.invariant_of-self
invariant_of-self c =
    subst (λ (xs : List Held). AreKeyed xs c.self.inside.wire.times c.self.inside.stack.times c.self.inside.counts) (sym c.set.ensures)
    (keyed_written c.self.invariant c.args.place c.args.stored (rw c.self.view_is c.requires) (subst (λ (xs : List Held). rise xs ≡ true) c.set.ensures c.are_places.ensures.in_order) (subst (λ (xs : List Held). have_own_places xs ≡ true) c.set.ensures c.are_places.ensures.own_places))
