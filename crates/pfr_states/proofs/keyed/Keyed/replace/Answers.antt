use Rattle.std.proofs.Common.{◌≡◌, ◌<◌, ◌+◌, ◌-◌, ◌∙◌, ap, get_or, length, ℕ, List, Some, false, true, subst, sym}
use Rattle.pfr_index.specs.Index.{places}
use Rattle.pfr_places.specs.Places.{at, have_own_places, rise, value_of, with_value}
use Rattle.pfr_states.specs.Keyed.{AreKeyed, states_of}
use Rattle.pfr_states.specs.RuleCounts.{counts_for}
use Rattle.pfr_states.specs.States.{another_shares}
use Rattle.pfr_states.specs.declared.stored.Stored.{Stored}
use Rattle.pfr_states.proofs.KeyedChanges.{with}
use Rattle.pfr_states.proofs.KeyedInvariants.{keyed_replaced}
use Rattle.pfr_states.proofs.KeyedLemmas.{Held, holder}
use Rattle.pfr_states.proofs.RuleLemmas.{few_value, made_by, rules_value}
use Rattle.pfr_states.proofs.keyed.Keyed.replace.Goals as goal

pub move_place-requires-clause-place : goal.move_place-requires-clause-place
move_place-requires-clause-place c =
    let it = holder c.self.inside.places c.args.place c.args.before.now (subst (λ (xs : List Held). value_of (at c.args.place xs) ≡ Some c.args.before.now) (sym c.self.view_is) c.requires.there) in
    subst (λ (n : ℕ). n < places) it.4 (c.self.invariant.states.within it.0 it.3)

pub move_place-requires-2-clause-place : goal.move_place-requires-2-clause-place
move_place-requires-2-clause-place c =
    let it = holder c.self.inside.places c.args.place c.args.before.now (subst (λ (xs : List Held). value_of (at c.args.place xs) ≡ Some c.args.before.now) (sym c.self.view_is) c.requires.there) in
    subst (λ (n : ℕ). n < places) it.4 (c.self.invariant.states.within it.0 it.3)

pub invariant_of-self-2 : goal.invariant_of-self-2
invariant_of-self-2 c =
    let there : value_of (at c.args.place c.self.inside.places) ≡ Some c.args.before.now = subst (λ (xs : List Held). value_of (at c.args.place xs) ≡ Some c.args.before.now) (sym c.self.view_is) c.requires.there in
    let free : another_shares c.args.stored.state (states_of c.self.inside.places) ≡ false = subst (λ (xs : List Held). another_shares c.args.stored.state (states_of xs) ≡ false) (sym c.self.view_is) c.requires.keys in
    subst (λ (xs : List Held). AreKeyed xs c.move_place.new.index.times c.move_place-2.new.index.times c.move_one.new.self) (sym c.set.ensures)
    (let it = holder c.self.inside.places c.args.place c.args.before.now there in
    let as_before : (n : ℕ) → counts_for n c.args.stored.state.rules.filter + (get_or c.reserve-3.new.self n 0 - counts_for n c.args.before.now.state.rules.filter) ≡ made_by n (with it.0 c.args.stored) + (get_or c.self.inside.counts n 0 - made_by n it.0) = λ n.
    ap (λ (m : ℕ). counts_for n c.args.stored.state.rules.filter + (m - counts_for n c.args.before.now.state.rules.filter)) (c.reserve-3.ensures.same n)
    ∙ ap (λ (v : Stored). counts_for n c.args.stored.state.rules.filter + (get_or c.self.inside.counts n 0 - counts_for n v.state.rules.filter)) (sym it.2) in
    keyed_replaced c.self.invariant c.args.place c.args.before.now c.args.stored there c.requires.number free
    (subst (λ (xs : List Held). rise xs ≡ true) c.set.ensures c.are_places.ensures.in_order) (subst (λ (xs : List Held). have_own_places xs ≡ true) c.set.ensures c.are_places.ensures.own_places)
    c.reserve.ensures.same c.reserve-2.ensures.same c.move_place.ensures.times c.move_place-2.ensures.times
    (rules_value c.self.inside.counts c.self.inside.places c.self.invariant.by_rule c.args.place c.args.stored it.0 c.self.invariant.states.own_places it.1 c.move_one.new.self (λ n. c.move_one.ensures n ∙ as_before n)))

pub move_one-requires-clause-few : goal.move_one-requires-clause-few
move_one-requires-clause-few c = λ n.
    let it = holder c.self.inside.places c.args.place c.args.before.now (subst (λ (xs : List Held). value_of (at c.args.place xs) ≡ Some c.args.before.now) (sym c.self.view_is) c.requires.there) in
    let few : length (with_value c.args.place c.args.stored c.self.inside.places) < 18446744073709551616 = subst (λ (xs : List Held). length xs < 18446744073709551616) c.set.ensures c.are_places.ensures.few in
    subst (λ (m : ℕ). counts_for n c.args.stored.state.rules.filter + (m - counts_for n c.args.before.now.state.rules.filter) < 18446744073709551616) (sym (c.reserve-3.ensures.same n))
    (subst (λ (v : Stored). counts_for n c.args.stored.state.rules.filter + (get_or c.self.inside.counts n 0 - counts_for n v.state.rules.filter) < 18446744073709551616) it.2
    (few_value c.self.inside.counts c.self.inside.places c.self.invariant.by_rule c.args.place c.args.stored it.0 c.self.invariant.states.own_places it.1 few n))
