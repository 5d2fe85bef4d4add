-- What a standby holds of states after it has taken the messages of a run.
use Rattle.std.specs.Prelude.{◌≡◌, ℕ, true, List, ◌++◌, map, Option, Ok, IfSome, ⊤}
use Rattle.std.specs.List.{Contains, filter}
use Rattle.pfr_track.specs.declared.state.State.{State}
use Rattle.pfr_track.specs.declared.time.Clock.{Clock}
use Rattle.pfr_states.specs.declared.change.TableChange.{TableChange}
use Rattle.pfr_states.specs.declared.change.TableChange.TheVariants as table
use Rattle.pfr_states.specs.States.{StateTable, purged, rise, state_of}
use Rattle.pfr_standby.specs.Standby.{Standing, standby_of}
use Rattle.pfr_sync.specs.declared.event.Event.{Event}
use Rattle.pfr_sync.specs.declared.origin.Origin.{Origin}
use Rattle.pfr_sync.specs.Laws.{AreOfOne, IsHistoryOfStates, kept_by, left}
use Rattle.pfr_sync.specs.Messages.{messages_of}
use Rattle.pfr_telling.specs.Standby.{StaysTold}
use Rattle.pfr_telling.specs.Telling.{AreTold, IsNextChange, changed, events_of}

-- the states of which a standby is told: their rules don't say `no-sync`
abbrev pub synchronised : List State → List State
synchronised states = filter (λ state. state.rules.is_synchronised) states

-- Of these states, events leave those that a standby is told of, each as it stands here, and no others.
pub record LeaveStates (states : List State) (events : List Event) : Type 0 where
  pub history : IsHistoryOfStates events
  pub states_are : (n : ℕ) → left n events ≡ state_of (record { 0 = n }) (synchronised states)

-- a state that is touched has the keys, the direction and the rule that it had before
abbrev pub StaysOfOne : List State → TableChange → Type 0
StaysOfOne states (table.Touched state) =
    (before : State) → Contains states before → state.number ≡ before.number → AreOfOne before state
StaysOfOne states _ = ⊤

-- what a packet may change of states of which a standby is told
abbrev pub IsNextOfStates : ℕ → List State → TableChange → Type 0
IsNextOfStates count states change = IsNextChange count states change × StaysTold states change × StaysOfOne states change

-- If events leave the states of a table as they stand, then with a packet's events they leave the states after the
-- packet as they stand.
abbrev pub APacketLeavesTheStates : Type 0
APacketLeavesTheStates =
    (count : ℕ) (clock : Clock) (change : Option TableChange) (before : StateTable) (events : List Event)
    → rise before.states ≡ true
    → AreTold count clock before.states events
    → LeaveStates before.states events
    → IfSome change (λ change. IsNextOfStates count (purged clock before.states) change)
    → LeaveStates
    (changed change (record { states = purged clock before.states; limit = before.limit })).states
    (events ++ events_of clock change before.states)

-- what a standby holds if it holds just these states, without those that it isn't told of
abbrev pub standing_of : List State → Standing
standing_of states = map (λ state. (state.number.0, kept_by state)) (synchronised states)

-- a standby that takes the messages of events refuses none, and holds just the states that they leave
abbrev pub AStandbyHoldsTheStatesOfTheTable : Type 0
AStandbyHoldsTheStatesOfTheTable =
    (origin : Origin) (states : List State) (events : List Event)
    → rise states ≡ true
    → LeaveStates states events
    → standby_of (messages_of origin events) ≡ Ok (standing_of states)
