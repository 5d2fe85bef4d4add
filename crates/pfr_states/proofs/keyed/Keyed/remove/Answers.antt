use Rattle.std.proofs.Common.{◌≡◌, ◌-◌, ◌∙◌, List, true, ap, get_or, subst, sym}
use Rattle.std.specs.Option.{option_copied}
use Rattle.pfr_places.specs.Places.{have_own_places, is_number, rise}
use Rattle.pfr_states.specs.declared.change.Side.TheVariants.{Wire, Stack}
use Rattle.pfr_states.specs.declared.stored.Stored.{Stored}
use Rattle.pfr_states.specs.KeyHash.{hash_of}
use Rattle.pfr_states.specs.Keyed.{AreKeyed}
use Rattle.pfr_states.specs.RuleCounts.{counts_for}
use Rattle.pfr_states.proofs.KeyedInvariants.{index_less, states_less}
use Rattle.pfr_states.proofs.KeyedLemmas.{Held, none_without, placed_there, standing}
use Rattle.pfr_states.proofs.RuleLemmas.{rules_without}
use Rattle.pfr_states.proofs.keyed.Keyed.remove.Goals as goal

pub returns-in_default : goal.returns-in_default
returns-in_default c = rw (← c.self.view_is) (record { states = none_without c.args.number.0 c.self.inside.places (sym c.place_of.ensures ∙ c.in_default.is); by_number = c.self.invariant.states.by_number })

pub returns-in_default-get : goal.returns-in_default-get
returns-in_default-get c =
    let are = c.self.invariant.states in
    absurd (placed_there c.self.inside.places are.own_places (is_number c.args.number.0) c.in-Some.place (sym c.place_of.ensures ∙ c.in-Some.is) (sym c.get.ensures ∙ ap (λ r. option_copied r) c.in_default-get.is))

pub invariant_of-self : goal.invariant_of-self
invariant_of-self c =
    let all = c.self.inside.places in
    let are = c.self.invariant in
    let it = standing all are.states.own_places (is_number c.args.number.0) c.in-Some.place c.in-Some-get.stored.now (sym c.place_of.ensures ∙ c.in-Some.is) (sym c.get.ensures ∙ ap (λ r. option_copied r) c.in-Some-get.is) in
    subst (λ (xs : List Held). AreKeyed xs c.remove.new.self.times c.remove-2.new.self.times c.remove-3.new.self) (sym c.remove-4.ensures) (record {
      states = states_less are.states c.args.number (subst (λ (xs : List Held). rise xs ≡ true) c.remove-4.ensures c.are_places.ensures.in_order) (subst (λ (xs : List Held). have_own_places xs ≡ true) c.remove-4.ensures c.are_places.ensures.own_places);
      by_wire = index_less Wire all c.args.number.0 it.placed c.hash_of-wire.result c.in-Some.place c.self.inside.wire.times c.remove.new.self.times are.states.in_order it.found are.by_wire (c.hash_of-wire.ensures ∙ ap (λ (s : Stored). hash_of s.state.wire) (sym it.has_value)) (sym it.at_place) c.remove.ensures.times;
      by_stack = index_less Stack all c.args.number.0 it.placed c.hash_of-stack.result c.in-Some.place c.self.inside.stack.times c.remove-2.new.self.times are.states.in_order it.found are.by_stack (c.hash_of-stack.ensures ∙ ap (λ (s : Stored). hash_of s.state.stack) (sym it.has_value)) (sym it.at_place) c.remove-2.ensures.times;
      by_rule = rules_without c.self.inside.counts all are.by_rule c.args.number.0 it.placed c.remove-3.new.self are.states.in_order it.found (λ n. c.remove-3.ensures.counts n ∙ ap (λ (s : Stored). get_or c.self.inside.counts n 0 - counts_for n s.state.rules.filter) (sym it.has_value));
    })

pub returns-clause-by_number : goal.returns-clause-by_number
returns-clause-by_number c = rw (← c.self.view_is) c.self.invariant.states.by_number
