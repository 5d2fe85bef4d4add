use Rattle.std.proofs.Common.{◌∙◌, List, ap, refl, subst, sym}
use Rattle.std.specs.Option.{option_copied}
use Rattle.std.proofs.lemmas.Bool.{eqb-true}
use Rattle.pfr_places.specs.Places.{is_number}
use Rattle.pfr_states.specs.Awaited.{AreAwaited}
use Rattle.pfr_states.specs.Keyed.{states_of}
use Rattle.pfr_states.specs.declared.stored.Stored.{Stored}
use Rattle.pfr_states.proofs.AwaitedLemmas.{awaited_kept, awaited_written}
use Rattle.pfr_states.proofs.IndexedLemmas.{state_absent}
use Rattle.pfr_states.proofs.KeyedChanges.{states_value}
use Rattle.pfr_states.proofs.KeyedLemmas.{Held, placed_there, standing}
use Rattle.pfr_states.proofs.ShareLemmas.{absent_touched}
use Rattle.pfr_states.proofs.indexed.IndexedStates.replace.Goals as goal

pub returns-in_default-clause-done : goal.returns-in_default-clause-done
returns-in_default-clause-done c =
    rw (← c.self.view_is) (absent_touched c.args.state.now (states_of c.self.inside.keyed) (state_absent c.args.state.now.number c.self.inside.keyed c.place_of.ensures.states.by_number (sym c.place_of.ensures.place ∙ c.in_default.is)))

pub returns-in_default-get-clause-done : goal.returns-in_default-get-clause-done
returns-in_default-get-clause-done c =
    absurd (placed_there c.self.inside.keyed c.place_of.ensures.states.own_places (is_number c.args.state.now.number.0) c.in-Some.place (sym c.place_of.ensures.place ∙ c.in-Some.is) (sym c.get.ensures.stored ∙ ap (λ r. option_copied r) c.in_default-get.is))

pub invariant_of-self : goal.invariant_of-self
invariant_of-self c = awaited_kept c.self.inside.keyed c.self.inside.deadlines.waits c.make_room.new.deadlines.waits c.make_room.ensures.states.own_places c.self.invariant c.make_room.ensures.kept

pub replace-requires-clause-number : goal.replace-requires-clause-number
replace-requires-clause-number c =
    let states = c.get.ensures.states in
    let it = standing c.self.inside.keyed states.own_places (is_number c.args.state.now.number.0) c.in-Some.place c.in-Some-get.field-0.now (sym c.place_of.ensures.place ∙ c.in-Some.is) (sym c.get.ensures.stored ∙ ap (λ r. option_copied r) c.in-Some-get.is) in
    ap (λ (v : Stored). v.state.number.0) (sym it.has_value) ∙ sym (states.by_number it.placed it.among) ∙ eqb-true it.placed.number c.args.state.now.number.0 it.is_it

pub invariant_of-self-in_err-replace : goal.invariant_of-self-in_err-replace
invariant_of-self-in_err-replace c =
    subst (λ (xs : List Held). AreAwaited c.make_room.new.deadlines.waits xs) (sym c.in_err-replace.ensures.kept)
    (awaited_kept c.self.inside.keyed c.self.inside.deadlines.waits c.make_room.new.deadlines.waits c.make_room.ensures.states.own_places c.self.invariant c.make_room.ensures.kept)

pub invariant_of-self-2 : goal.invariant_of-self-2
invariant_of-self-2 c =
    let states = c.make_room.ensures.states in
    let stored : Stored = record { state = c.args.state.now; waits = c.args.state.now.deadline } in
    let it = standing c.self.inside.keyed states.own_places (is_number c.args.state.now.number.0) c.in-Some.place c.in-Some-get.field-0.now (sym c.place_of.ensures.place ∙ c.in-Some.is) (sym c.get.ensures.stored ∙ ap (λ r. option_copied r) c.in-Some-get.is) in
    let awaited = awaited_kept c.self.inside.keyed c.self.inside.deadlines.waits c.make_room.new.deadlines.waits states.own_places c.self.invariant c.make_room.ensures.kept in
    subst (λ (xs : List Held). AreAwaited c.add.new.self.waits xs) (sym c.in_ok-replace.ensures.done)
    (awaited_written c.self.inside.keyed c.make_room.new.deadlines.waits c.add.new.self.waits c.in-Some.place stored it.placed states.own_places it.there awaited refl c.add.ensures)

pub returns-clause-done : goal.returns-clause-done
returns-clause-done c =
    let states = c.make_room.ensures.states in
    let stored : Stored = record { state = c.args.state.now; waits = c.args.state.now.deadline } in
    let it = standing c.self.inside.keyed states.own_places (is_number c.args.state.now.number.0) c.in-Some.place c.in-Some-get.field-0.now (sym c.place_of.ensures.place ∙ c.in-Some.is) (sym c.get.ensures.stored ∙ ap (λ r. option_copied r) c.in-Some-get.is) in
    rw (← c.self.view_is) (ap (λ (xs : List Held). states_of xs) c.in_ok-replace.ensures.done ∙ states_value c.in-Some.place stored c.self.inside.keyed it.placed states.by_number states.in_order states.own_places it.there (eqb-true it.placed.number c.args.state.now.number.0 it.is_it))
