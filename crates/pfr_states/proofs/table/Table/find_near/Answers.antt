use Rattle.std.proofs.Common.{Option, ◌∙◌, ap, subst, sym}
use Rattle.std.specs.Option.{option_map}
use Rattle.pfr_track.specs.declared.state.State.{State}
use Rattle.pfr_states.specs.Indexed.{IsAnswer}
use Rattle.pfr_states.specs.States.{is_found}
use Rattle.pfr_states.specs.declared.stored.Found.{Found}
use Rattle.pfr_states.proofs.PurgeLemmas.{at_alive, at_gone, at_none}
use Rattle.pfr_states.proofs.table.Table.find_near.Goals as goal

abbrev state_at : Option Found → Option State
state_at found = option_map (λ (found : Found). found.state.now) found

pub returns-then-has_come : goal.returns-then-has_come
returns-then-has_come c =
    let h = subst (λ (r : Option State). IsAnswer (is_found c.args.side c.args.key.now c.args.scope) c.self.inside.states r) (ap state_at c.in-Some.is) c.find.ensures.state in
    rw (← c.self.view_is) (at_gone c.args.side c.args.key.now c.args.scope c.args.clock c.self.inside.states c.in-Some.found.state.now c.self.invariant.own_keys h (sym c.covers.ensures ∙ c.if-not-covers.false) (sym c.has_come.ensures ∙ c.if-has_come.true))

pub returns-else-has_come : goal.returns-else-has_come
returns-else-has_come c =
    let h = subst (λ (r : Option State). IsAnswer (is_found c.args.side c.args.key.now c.args.scope) c.self.inside.states r) (ap state_at c.in-Some.is) c.find.ensures.state in
    rw (← c.self.view_is) (at_alive c.args.side c.args.key.now c.args.scope c.args.clock c.self.inside.states c.in-Some.found.state.now c.self.invariant.own_keys h (sym c.covers.ensures ∙ c.if-not-covers.false) (sym c.has_come.ensures ∙ c.if-has_come.false))

pub returns-in-None : goal.returns-in-None
returns-in-None c =
    let none = subst (λ (r : Option State). IsAnswer (is_found c.args.side c.args.key.now c.args.scope) c.self.inside.states r) (ap state_at c.in-None.is) c.find.ensures.state in
    rw (← c.self.view_is) (at_none c.args.side c.args.key.now c.args.scope c.args.clock c.self.inside.states none)
