use Rattle.std.proofs.Common.{◌≡◌, ◌∙◌, List, ap, false, refl, subst, sym}
use Rattle.std.specs.List.{list_any}
use Rattle.pfr_states.specs.Awaited.{AreAwaited}
use Rattle.pfr_states.specs.Keyed.{held, states_of}
use Rattle.pfr_states.specs.States.{is_number}
use Rattle.pfr_states.specs.declared.stored.Stored.{Stored}
use Rattle.pfr_states.proofs.AwaitedLemmas.{awaited_kept, awaited_more}
use Rattle.pfr_states.proofs.IndexedLemmas.{number_absent}
use Rattle.pfr_states.proofs.KeyedChanges.{states_with}
use Rattle.pfr_states.proofs.KeyedLemmas.{Held}
use Rattle.pfr_states.proofs.indexed.IndexedStates.add.Goals as goal

pub invariant_of-self : goal.invariant_of-self
invariant_of-self c = awaited_kept c.self.inside.keyed c.self.inside.deadlines.waits c.make_room.new.deadlines.waits c.make_room.ensures.states.own_places c.self.invariant c.make_room.ensures.kept

pub add-requires-clause-number : goal.add-requires-clause-number
add-requires-clause-number c =
    let none : list_any (is_number c.args.state.now.number) (states_of c.self.inside.keyed) ≡ false = rw c.self.view_is c.requires.number in
    number_absent c.args.state.now.number c.self.inside.keyed c.make_room.ensures.states.by_number none

pub invariant_of-self-in_err-place : goal.invariant_of-self-in_err-place
invariant_of-self-in_err-place c =
    subst (λ (xs : List Held). AreAwaited c.make_room.new.deadlines.waits xs) (sym c.in_err-place.ensures.kept)
    (awaited_kept c.self.inside.keyed c.self.inside.deadlines.waits c.make_room.new.deadlines.waits c.make_room.ensures.states.own_places c.self.invariant c.make_room.ensures.kept)

pub invariant_of-self-2 : goal.invariant_of-self-2
invariant_of-self-2 c =
    let stored : Stored = record { state = c.args.state.now; waits = c.args.state.now.deadline } in
    let awaited = awaited_kept c.self.inside.keyed c.self.inside.deadlines.waits c.make_room.new.deadlines.waits c.make_room.ensures.states.own_places c.self.invariant c.make_room.ensures.kept in
    subst (λ (xs : List Held). AreAwaited c.add-2.new.self.waits xs) (sym c.in_ok-place.ensures.done)
    (awaited_more c.self.inside.keyed c.make_room.new.deadlines.waits c.add-2.new.self.waits stored c.in_ok-place.place awaited refl c.add-2.ensures)

pub returns-clause-done : goal.returns-clause-done
returns-clause-done c =
    let stored : Stored = record { state = c.args.state.now; waits = c.args.state.now.deadline } in
    let none : list_any (is_number c.args.state.now.number) (states_of c.self.inside.keyed) ≡ false = rw c.self.view_is c.requires.number in
    let numbers = c.make_room.ensures.states.by_number in
    rw (← c.self.view_is) (ap (λ (xs : List Held). states_of xs) c.in_ok-place.ensures.done ∙ states_with (held stored c.in_ok-place.place) c.self.inside.keyed numbers refl (number_absent c.args.state.now.number c.self.inside.keyed numbers none))
