use Rattle.std.proofs.Common.{◌≡◌, ◌++◌, List, ℕ, Some, sym, ap, ◌∙◌}
use Rattle.pfr_states.specs.declared.change.TableChange.TheVariants as table
use Rattle.pfr_states.specs.States.{StateTable, due, purged, with_change}
use Rattle.pfr_messages.specs.Messages.{Content}
use Rattle.pfr_sync.specs.declared.event.EventKind.TheVariants.{Removed}
use Rattle.pfr_sync.specs.declared.event.Event.{Event}
use Rattle.pfr_telling.specs.Telling.{told}
use Rattle.pfr_telling.proofs.PurgeLemmas.{first_told, none_told, purge_told}
use Rattle.pfr_telling.proofs.telling.Telling.purge.Goals as goal

pub loop-state-preserved : goal.loop-state-preserved
loop-state-preserved c =
    let i = c.loop-state.invariant in
    let clock = c.args.clock in
    let states = c.loop-state.table.states in
    let state = c.in-Some.state in
    let rest = with_change (table.Removed state.number) states in
    let law = c.a_purge_goes_state_by_state.ensures in
    let is_due : due clock states ≡ Some state = sym c.due.ensures ∙ c.in-Some.is in
    record {
      table = rw c.remove.ensures (law.table c.loop-state.table state.number i.table);
      limit = ap (λ (t : StateTable). t.limit) c.remove.ensures ∙ i.limit;
      purged_is = ap (λ (t : StateTable). purged clock t.states) c.remove.ensures ∙ law.kept states clock state i.table.in_order is_due ∙ i.purged_is;
      origin = c.tell.ensures.origin ∙ i.origin;
      done = i.done ++ told Removed clock state;
      all = rw c.remove.ensures (first_told clock states rest state _ i.done (law.next states clock state i.table.in_order is_due) i.all);
      told = λ (before : List Content) (events : List Event) (count : ℕ) told_before are.
          let was = i.told before events count told_before are in
          let first = c.due_is_the_first.ensures states clock in
          rw c.remove.ensures (purge_told before c.loop-state.self c.tell.new.self count clock states events i.done state is_due first was (c.in_ok-tell.ensures.told before (events ++ i.done)));
    }

pub returns-clause-told : goal.returns-clause-told
returns-clause-told c = λ (before : List Content) (events : List Event) (count : ℕ) told_before are.
    let i = c.loop-state.invariant in
    let over = c.a_purge_goes_state_by_state.ensures.over c.loop-state.table.states c.args.clock (sym c.due.ensures ∙ c.in_default.is) in
    rw (none_told c.args.clock c.loop-state.table.states _ i.done over.0 i.all) (i.told before events count told_before are)
