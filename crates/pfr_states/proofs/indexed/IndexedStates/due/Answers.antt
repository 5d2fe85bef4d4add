use Rattle.std.proofs.Common.{◌≡◌, ◌∙◌, Some, ap, false, nat_le, sym, true}
use Rattle.std.specs.Option.{option_copied}
use Rattle.std.proofs.lemmas.Bool.{eqb-true}
use Rattle.pfr_states.specs.declared.stored.Stored.{Stored}
use Rattle.pfr_states.proofs.AwaitedLemmas.{first_is_due, first_lives, none_come}
use Rattle.pfr_states.proofs.IndexedLemmas.{kept}
use Rattle.pfr_states.proofs.KeyedInvariants.{rise_states}
use Rattle.pfr_states.proofs.indexed.IndexedStates.due.Goals as goal

pub returns-then-are_ahead_of-clause-state : goal.returns-then-are_ahead_of-clause-state
returns-then-are_ahead_of-clause-state c =
    rw (← c.self.view_is) (none_come c.args.clock c.self.inside.keyed c.self.inside.deadlines.waits c.self.invariant c.self.inside.deadlines.bound c.in_default.ensures.none (sym c.are_ahead_of.ensures ∙ c.if-are_ahead_of.true))

pub returns-then-not-has_come-clause-state : goal.returns-then-not-has_come-clause-state
returns-then-not-has_come-clause-state c =
    let alive : nat_le c.in-Some.first.0.0 c.args.clock.0 ≡ false = sym c.has_come.ensures ∙ c.if-not-has_come.true in
    rw (← c.self.view_is) (first_lives c.args.clock c.self.inside.keyed c.self.inside.deadlines.waits c.self.invariant c.in-Some.first c.in-Some.ensures.first alive)

pub returns-then-eq-clause-state : goal.returns-then-eq-clause-state
returns-then-eq-clause-state c =
    let all = c.self.inside.keyed in
    let stored = c.in-Some-kept_by.stored.now in
    let come : nat_le c.in-Some.first.0.0 c.args.clock.0 ≡ true = sym c.has_come.ensures ∙ c.if-not-has_come.false in
    let it = kept all c.in-Some.first stored (sym c.kept_by.ensures.stored ∙ ap (λ r. option_copied r) c.in-Some-kept_by.is) in
    let states = c.len.ensures.states in
    let level = ap (λ (v : Stored). v.state.deadline.0) it.has_value ∙ eqb-true stored.state.deadline.0 c.in-Some.first.0.0 (sym c.eq.ensures ∙ c.if-eq.true) in
    rw (← c.self.view_is) (ap (λ (v : Stored). Some v.state) (sym it.has_value)
    ∙ first_is_due c.args.clock all c.self.inside.deadlines.waits c.self.invariant c.in-Some.first it.placed (rise_states all states.by_number states.in_order) c.in-Some.ensures.first come it.among level (ap (λ (v : Stored). v.state.number.0) it.has_value ∙ it.number))

pub returns-then-are_ahead_of-clause-in_order : goal.returns-then-are_ahead_of-clause-in_order
returns-then-are_ahead_of-clause-in_order c = rw (← c.self.view_is) (rise_states c.self.inside.keyed c.len.ensures.states.by_number c.len.ensures.states.in_order)

pub returns-then-not-has_come-clause-in_order : goal.returns-then-not-has_come-clause-in_order
returns-then-not-has_come-clause-in_order c = rw (← c.self.view_is) (rise_states c.self.inside.keyed c.len.ensures.states.by_number c.len.ensures.states.in_order)

pub returns-then-eq-clause-in_order : goal.returns-then-eq-clause-in_order
returns-then-eq-clause-in_order c = rw (← c.self.view_is) (rise_states c.self.inside.keyed c.len.ensures.states.by_number c.len.ensures.states.in_order)
