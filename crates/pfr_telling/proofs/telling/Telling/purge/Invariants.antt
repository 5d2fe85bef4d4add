use Rattle.std.proofs.Common.{◌≡◌, ◌++◌, ℕ, List, length}
use Rattle.pfr_states.specs.States.{IsTable, purged}
use Rattle.pfr_messages.specs.Messages.{Content}
use Rattle.pfr_sync.specs.declared.event.Event.{Event}
use Rattle.pfr_telling.specs.Telling.{AreTold, HasTold, events_of_purge}
use Rattle.pfr_telling.proofs.telling.Telling.purge.Given as goal

abbrev pub invariant-loop-state : goal.invariant-loop-state
invariant-loop-state l = record {
  table : IsTable l.table;
  limit : l.table.limit ≡ l.initial.table.limit;
  purged_is : purged l.clock l.table.states ≡ purged l.clock l.initial.table.states;
  origin : l.self.queue.origin ≡ l.initial.self.queue.origin;
  done : List Event;
  all : events_of_purge l.clock l.initial.table.states ≡ done ++ events_of_purge l.clock l.table.states;
  told : (before : List Content) (events : List Event) (count : ℕ) → HasTold before l.initial.self l.clock events → AreTold count l.clock l.initial.table.states events
      → HasTold before l.self l.clock (events ++ done) × AreTold count l.clock l.table.states (events ++ done);
}

abbrev pub decreases-loop-state : goal.decreases-loop-state
decreases-loop-state l = length l.table.states
