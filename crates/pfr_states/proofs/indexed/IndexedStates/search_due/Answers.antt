use Rattle.std.proofs.Common.{◌∙◌}
use Rattle.std.specs.Option.{option_copied}
use Rattle.pfr_states.proofs.AwaitedLemmas.{first_of_all, gone_through}
use Rattle.pfr_states.proofs.KeyedInvariants.{rise_states}
use Rattle.pfr_deadlines.specs.Waits.{come_at}
use Rattle.pfr_states.proofs.indexed.IndexedStates.search_due.Goals as goal

pub returns-clause-state : goal.returns-clause-state
returns-clause-state c =
    let all = c.self.inside.keyed in
    let waits = c.self.inside.deadlines.waits in
    let states = c.len.ensures.states in
    rw (← c.self.view_is) (c.copied.ensures ∙ gone_through _ (λ r. option_copied r) c.args.clock all (λ before wait after is. is.1) _ _ (come_at c.args.clock waits) c.fold_come-first.ensures ∙ first_of_all c.args.clock all waits c.self.invariant states.own_places (rise_states all states.by_number states.in_order))

pub returns-clause-in_order : goal.returns-clause-in_order
returns-clause-in_order c = rw (← c.self.view_is) (rise_states c.self.inside.keyed c.len.ensures.states.by_number c.len.ensures.states.in_order)
