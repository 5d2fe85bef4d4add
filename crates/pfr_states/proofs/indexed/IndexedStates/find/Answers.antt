use Rattle.std.proofs.Common.{◌∙◌, Option, ap, subst, sym}
use Rattle.std.specs.Option.{option_copied}
use Rattle.pfr_places.specs.declared.place.Place.{Place}
use Rattle.pfr_states.specs.Keyed.{IsPlaceOf, states_of}
use Rattle.pfr_states.specs.States.{is_found}
use Rattle.pfr_states.proofs.IndexedLemmas.{found_answer, found_nowhere}
use Rattle.pfr_states.proofs.Membership.{none_of}
use Rattle.pfr_states.proofs.indexed.IndexedStates.find.Goals as goal

pub returns-in-Some-get-clause-state : goal.returns-in-Some-get-clause-state
returns-in-Some-get-clause-state c =
    let test = is_found c.args.side c.args.key.now c.args.scope in
    let passed = subst (λ (r : Option Place). IsPlaceOf test c.self.inside.keyed r) c.in-Some.is c.place_near.ensures.place in
    rw (← c.self.view_is) (found_answer test c.self.inside.keyed c.in-Some.place c.in-Some-get.stored.now passed (sym c.get.ensures.stored ∙ ap (λ r. option_copied r) c.in-Some-get.is))

pub returns-in-None-get-clause-state : goal.returns-in-None-get-clause-state
returns-in-None-get-clause-state c =
    let test = is_found c.args.side c.args.key.now c.args.scope in
    let passed = subst (λ (r : Option Place). IsPlaceOf test c.self.inside.keyed r) c.in-Some.is c.place_near.ensures.place in
    absurd (found_nowhere test c.self.inside.keyed c.in-Some.place passed (sym c.get.ensures.stored ∙ ap (λ r. option_copied r) c.in-None-get.is))

pub returns-in-None-clause-state : goal.returns-in-None-clause-state
returns-in-None-clause-state c =
    let test = is_found c.args.side c.args.key.now c.args.scope in
    let none = subst (λ (r : Option Place). IsPlaceOf test c.self.inside.keyed r) c.in-None.is c.place_near.ensures.place in
    rw (← c.self.view_is) (λ s h. none_of test (states_of c.self.inside.keyed) s none h)
