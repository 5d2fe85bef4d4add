use Rattle.std.proofs.Common.{◌∙◌, ap, sym}
use Rattle.std.specs.Option.{option_copied}
use Rattle.pfr_states.specs.States.{is_found, lives}
use Rattle.pfr_states.proofs.IndexedLemmas.{least_answer, least_there, state_in}
use Rattle.pfr_states.proofs.KeyedInvariants.{rise_states}
use Rattle.pfr_states.proofs.indexed.IndexedStates.find_least.Goals as goal

pub returns-in_err-place : goal.returns-in_err-place
returns-in_err-place c =
    let all = c.self.inside.keyed in
    let are = c.least_at.ensures.states in
    absurd (least_there (is_found c.args.side c.args.key.now c.args.scope) (lives c.args.clock) all c.in_ok-number.number are.by_number (rise_states all are.by_number are.in_order) (sym c.in_ok-number.was ∙ c.least_at.ensures.number) (sym c.place_of.ensures.place ∙ c.in_err-place.was))

pub returns-in-Some : goal.returns-in-Some
returns-in-Some c =
    let all = c.self.inside.keyed in
    let are = c.least_at.ensures.states in
    rw (← c.self.view_is) (ap (λ r. state_in (option_copied r)) (sym c.in-Some.is) ∙ least_answer (is_found c.args.side c.args.key.now c.args.scope) (lives c.args.clock) all c.in_ok-number.number c.in_ok-place.place (option_copied c.get.result) are.by_number (rise_states all are.by_number are.in_order) are.own_places
    (sym c.in_ok-number.was ∙ c.least_at.ensures.number) (sym c.place_of.ensures.place ∙ c.in_ok-place.was) c.get.ensures.stored)

pub returns-in-None : goal.returns-in-None
returns-in-None c =
    let all = c.self.inside.keyed in
    let are = c.least_at.ensures.states in
    rw (← c.self.view_is) (ap (λ r. state_in (option_copied r)) (sym c.in-None.is) ∙ least_answer (is_found c.args.side c.args.key.now c.args.scope) (lives c.args.clock) all c.in_ok-number.number c.in_ok-place.place (option_copied c.get.result) are.by_number (rise_states all are.by_number are.in_order) are.own_places
    (sym c.in_ok-number.was ∙ c.least_at.ensures.number) (sym c.place_of.ensures.place ∙ c.in_ok-place.was) c.get.ensures.stored)
