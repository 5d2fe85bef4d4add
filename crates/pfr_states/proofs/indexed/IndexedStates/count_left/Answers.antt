use Rattle.std.proofs.Common.{◌≡◌, ◌∙◌, List, Option, ap, arith, length, refl, subst, true}
use Rattle.std.proofs.lemmas.List.{length-map}
use Rattle.pfr_track.specs.declared.state.State.{State}
use Rattle.pfr_states.specs.States.{after, count_of_rule, purged, rise}
use Rattle.pfr_states.proofs.KeyedInvariants.{rise_states}
use Rattle.pfr_states.proofs.KeyedLemmas.{Held}
use Rattle.pfr_states.proofs.RuleLemmas.{count_left_most, count_step}
use Rattle.pfr_states.proofs.WalkLemmas.{from, from_first, from_next}
use Rattle.pfr_states.proofs.indexed.IndexedStates.count_left.Goals as goal

pub loop-next-init : goal.loop-next-init
loop-next-init c =
    let states = c.args.self.now in
    let in_order : rise states ≡ true = subst (λ (xs : List State). rise xs ≡ true) c.self.view_is (rise_states c.self.inside.keyed c.len.ensures.states.by_number c.len.ensures.states.in_order) in
    let same = ap (λ (xs : List State). count_of_rule c.args.rule.0 (purged c.args.clock xs)) (ap (from states) c.first-next.ensures ∙ from_first states in_order) in
    omega (arith, same)

pub overflow_add-count : goal.overflow_add-count
overflow_add-count c =
    let states = c.args.self.now in
    let in_order : rise states ≡ true = subst (λ (xs : List State). rise xs ≡ true) c.self.view_is (rise_states c.self.inside.keyed c.len.ensures.states.by_number c.len.ensures.states.in_order) in
    let rest = from states (after c.in-Some.state.number states) in
    let steps = from_next states c.in-Some.state c.loop-next.next (after c.in-Some.state.number states) in_order c.in-Some.is refl in
    let level = ap (λ (xs : List State). count_of_rule c.args.rule.0 (purged c.args.clock xs)) steps ∙ count_step c.args.rule.0 c.args.clock c.in-Some.state rest in
    let invariant = c.loop-next.invariant in
    let most = count_left_most c.args.rule.0 c.args.clock states in
    let size = length-map c.self.inside.keyed (λ (p : Held). p.value.state) in
    let same = ap (λ (xs : List State). length xs) c.self.view_is in
    let few = c.len.ensures.few in
    let counted = c.left_of_rule-count.ensures in
    omega (arith, level, invariant, most, size, same, few, counted)

pub loop-next-smaller : goal.loop-next-smaller
loop-next-smaller c =
    let states = c.args.self.now in
    let in_order : rise states ≡ true = subst (λ (xs : List State). rise xs ≡ true) c.self.view_is (rise_states c.self.inside.keyed c.len.ensures.states.by_number c.len.ensures.states.in_order) in
    let steps = ap (λ (xs : List State). length xs) (from_next states c.in-Some.state c.loop-next.next c.after-next.result in_order c.in-Some.is c.after-next.ensures) in
    omega (arith, steps)

pub loop-next-preserved : goal.loop-next-preserved
loop-next-preserved c =
    let states = c.args.self.now in
    let in_order : rise states ≡ true = subst (λ (xs : List State). rise xs ≡ true) c.self.view_is (rise_states c.self.inside.keyed c.len.ensures.states.by_number c.len.ensures.states.in_order) in
    let steps = from_next states c.in-Some.state c.loop-next.next c.after-next.result in_order c.in-Some.is c.after-next.ensures in
    let level = ap (λ (xs : List State). count_of_rule c.args.rule.0 (purged c.args.clock xs)) steps ∙ count_step c.args.rule.0 c.args.clock c.in-Some.state (from states c.after-next.result) in
    let invariant = c.loop-next.invariant in
    let counted = c.left_of_rule-count.ensures in
    omega (arith, level, invariant, counted)

pub returns : goal.returns
returns c =
    let states = c.args.self.now in
    let over = ap (λ (next : Option State). count_of_rule c.args.rule.0 (purged c.args.clock (from states next))) c.in_default.is in
    let invariant = c.loop-next.invariant in
    omega (arith, over, invariant)
