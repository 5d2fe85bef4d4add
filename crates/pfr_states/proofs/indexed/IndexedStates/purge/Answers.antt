use Rattle.std.proofs.Common.{◌∙◌, List, ap, sym}
use Rattle.pfr_track.specs.declared.state.State.{State}
use Rattle.pfr_states.specs.States.{purged}
use Rattle.pfr_states.proofs.FindLemmas.{without}
use Rattle.pfr_states.proofs.PurgeLemmas.{fewer, purged_off, purged_on}
use Rattle.pfr_states.proofs.indexed.IndexedStates.purge.Goals as goal

pub loop-state-smaller : goal.loop-state-smaller
loop-state-smaller c = rw (c.remove.ensures, c.next_due.ensures.same) (fewer c.args.clock c.loop-state.self c.in-Some.state (sym c.next_due.ensures.state ∙ c.in-Some.is))

pub loop-state-preserved : goal.loop-state-preserved
loop-state-preserved c =
    ap (purged c.args.clock) (c.remove.ensures ∙ ap (λ (states : List State). without c.in-Some.state.number states) c.next_due.ensures.same)
    ∙ purged_on c.args.clock c.loop-state.self c.in-Some.state c.next_due.ensures.in_order (sym c.next_due.ensures.state ∙ c.in-Some.is) ∙ c.loop-state.invariant

pub returns : goal.returns
returns c = c.next_due.ensures.same ∙ sym (purged_off c.args.clock c.loop-state.self (sym c.next_due.ensures.state ∙ c.in_default.is)) ∙ c.loop-state.invariant
