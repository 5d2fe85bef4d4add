use Rattle.std.proofs.Common.{◌≡◌, ◌<◌, ◌+◌, ◌∙◌, ap, length, List, ℕ, None, false, true, subst, sym}
use Rattle.std.specs.List.{list_any}
use Rattle.pfr_places.specs.Places.{have_own_places, of_number, rise, with_placed}
use Rattle.pfr_states.specs.declared.change.Side.TheVariants.{Wire, Stack}
use Rattle.pfr_states.specs.declared.stored.Stored.{Stored}
use Rattle.pfr_states.specs.Keyed.{AreKeyed, held, states_of}
use Rattle.pfr_states.specs.States.{shares_key}
use Rattle.pfr_states.proofs.KeyedInvariants.{index_more, states_more}
use Rattle.pfr_states.proofs.KeyedLemmas.{Held}
use Rattle.pfr_states.proofs.RuleLemmas.{few_with, made_by, rules_with}
use Rattle.pfr_states.proofs.keyed.Keyed.add.Goals as goal

pub invariant_of-self-2 : goal.invariant_of-self-2
invariant_of-self-2 c =
    let all = c.self.inside.places in
    let stored : Stored = record { state = c.args.state.now; waits = c.args.state.now.deadline } in
    let are = c.self.invariant in
    let done = c.in_ok-place.ensures.done in
    let fresh : of_number c.args.state.now.number.0 all ≡ None = subst (λ (xs : List Held). of_number c.args.state.now.number.0 xs ≡ None) (sym c.self.view_is) c.requires.number in
    let free : list_any (shares_key c.args.state.now) (states_of all) ≡ false = subst (λ (xs : List Held). list_any (shares_key c.args.state.now) (states_of xs) ≡ false) (sym c.self.view_is) c.requires.keys in
    let placed = held stored c.in_ok-place.place in
    subst (λ (xs : List Held). AreKeyed xs c.insert-2.new.self.times c.insert-3.new.self.times c.add.new.self) (sym done) (record {
      states = states_more are.states stored c.in_ok-place.place fresh free c.in_ok-place.ensures.within (subst (λ (xs : List Held). rise xs ≡ true) done c.are_places.ensures.in_order) (subst (λ (xs : List Held). have_own_places xs ≡ true) done c.are_places.ensures.own_places);
      by_wire = index_more Wire all placed c.hash_of.result c.reserve.new.self.times c.insert-2.new.self.times (λ e. c.reserve.ensures.same e ∙ are.by_wire e) c.hash_of.ensures c.insert-2.ensures.times;
      by_stack = index_more Stack all placed c.hash_of-2.result c.reserve-2.new.self.times c.insert-3.new.self.times (λ e. c.reserve-2.ensures.same e ∙ are.by_stack e) c.hash_of-2.ensures c.insert-3.ensures.times;
      by_rule = rules_with c.self.inside.counts all are.by_rule placed c.add.new.self (λ n. c.add.ensures n ∙ ap (λ (m : ℕ). made_by n placed + m) (c.reserve-3.ensures.same n));
    })

pub add-requires-clause-few : goal.add-requires-clause-few
add-requires-clause-few c = λ n.
    let stored : Stored = record { state = c.args.state.now; waits = c.args.state.now.deadline } in
    let placed = held stored c.in_ok-place.place in
    let few : length (with_placed placed c.self.inside.places) < 18446744073709551616 = subst (λ (xs : List Held). length xs < 18446744073709551616) c.in_ok-place.ensures.done c.are_places.ensures.few in
    subst (λ (m : ℕ). made_by n placed + m < 18446744073709551616) (sym (c.reserve-3.ensures.same n)) (few_with c.self.inside.counts c.self.inside.places c.self.invariant.by_rule placed few n)
