-- What a standby holds after it has applied the messages of a run.
use Rattle.std.specs.Prelude.{◌≡◌, ℕ, ◌==◌, ◌&&◌, Bool, true, List, ◌++◌, Option, IfSome, ⊤}
use Rattle.std.specs.List.{Contains, list_any}
use Rattle.pfr_track.specs.declared.state.State.{State}
use Rattle.pfr_track.specs.declared.time.Clock.{Clock}
use Rattle.pfr_states.specs.declared.change.TableChange.{TableChange}
use Rattle.pfr_states.specs.declared.change.TableChange.TheVariants as table
use Rattle.pfr_states.specs.States.{StateTable, purged, rise}
use Rattle.pfr_sync.specs.declared.event.Event.{Event}
use Rattle.pfr_sync.specs.declared.origin.Origin.{Origin}
use Rattle.pfr_sync.specs.Laws.{IsHistory, has, held_after, is_left}
use Rattle.pfr_sync.specs.Messages.{messages_of}
use Rattle.pfr_telling.specs.Telling.{AreTold, IsNextChange, changed, events_of}

-- Of these states, events leave those that a standby is told of, and no others.
pub record Leave (states : List State) (events : List Event) : Type 0 where
  pub history : IsHistory events
  pub of_states : (state : State) → Contains states state → is_left state.number.0 events ≡ state.rules.is_synchronised
  pub no_other : (n : ℕ) → is_left n events ≡ true → (state : State) × Contains states state × (state.number.0 ≡ n)

-- a state that is touched is told of exactly if it was before
abbrev pub StaysTold : List State → TableChange → Type 0
StaysTold states (table.Touched state) =
    (before : State) → Contains states before → state.number ≡ before.number → state.rules.is_synchronised ≡ before.rules.is_synchronised
StaysTold states _ = ⊤

-- If events leave the states of a table, then with a packet's events they leave the states after the packet.
abbrev pub APacketLeavesTheTable : Type 0
APacketLeavesTheTable =
    (count : ℕ) (clock : Clock) (change : Option TableChange) (before : StateTable) (events : List Event)
    → rise before.states ≡ true
    → AreTold count clock before.states events
    → Leave before.states events
    → IfSome change (λ change. IsNextChange count (purged clock before.states) change × StaysTold (purged clock before.states) change)
    → Leave (changed change (record { states = purged clock before.states; limit = before.limit })).states (events ++ events_of clock change before.states)

-- one of these states has the number, and a standby is told of it
abbrev pub is_told_of : ℕ → List State → Bool
is_told_of n states = list_any (λ state. state.number.0 == n && state.rules.is_synchronised) states

-- a standby that applies the messages of events holds the numbers of the states that they leave, and no others
abbrev pub AStandbyHoldsTheTable : Type 0
AStandbyHoldsTheTable =
    (origin : Origin) (states : List State) (events : List Event) → Leave states events → (n : ℕ) → has n (held_after (messages_of origin events)) ≡ is_told_of n states
