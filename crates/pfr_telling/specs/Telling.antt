-- What a standby is told of the states of a table at a packet.
use Rattle.std.specs.Prelude.{◌≡◌, ℕ, ◌≤◌, ◌+◌, true, if◌then◌else◌, List, [], ◌∷◌, ◌++◌, Option, Some, None, IfSome, ⊤}
use Rattle.std.specs.List.{All, Contains, flat_map}
use Rattle.std.specs.Option.{option_to_list}
use Rattle.pfr_track.specs.declared.state.State.{State}
use Rattle.pfr_track.specs.declared.time.Clock.{Clock}
use Rattle.pfr_states.specs.declared.change.TableChange.{TableChange}
use Rattle.pfr_states.specs.declared.change.TableChange.TheVariants as table
use Rattle.pfr_states.specs.States.{StateTable, all_due, purged, state_of, with_change}
use Rattle.pfr_messages.specs.Messages.{Content}
use Rattle.pfr_sync.specs.declared.event.EventKind.{EventKind}
use Rattle.pfr_sync.specs.declared.event.EventKind.TheVariants.{Made, Touched, Removed}
use Rattle.pfr_sync.specs.declared.event.Event.{Event}
use Rattle.pfr_sync.specs.Events.{MayCome, is_removed}
use Rattle.pfr_sync.specs.Messages.{closed_at, message_of, open_at}
use Rattle.pfr_sync.specs.Queues.{Tells}
use Rattle.pfr_telling.specs.declared.telling.Telling.{Telling}

-- ---- the table

-- a table after a packet's change
abbrev pub changed : Option TableChange → StateTable → StateTable
changed None table = table
changed (Some change) table = record { states = with_change change table.states; limit = table.limit }

-- ---- events

-- what is told of an event of a state: nothing if its rule says `no-sync`
abbrev pub told : EventKind → Clock → State → List Event
told kind clock state = if state.rules.is_synchronised then record { kind = kind; state = state; clock = clock } ∷ [] else []

-- the states whose deadline has come are removed, by deadline, and with one deadline by number
abbrev pub events_of_purge : Clock → List State → List Event
events_of_purge clock states = flat_map (told Removed clock) (all_due clock states)

-- the removal of a state, as it was before
abbrev pub events_of_removal : Clock → Option State → List Event
events_of_removal clock None = []
events_of_removal clock (Some state) = told Removed clock state

-- the events of a packet's own change
abbrev pub events_of_change : Clock → Option TableChange → List State → List Event
events_of_change clock None states = []
events_of_change clock (Some (table.Made state)) states = told Made clock state
events_of_change clock (Some (table.Touched state)) states = told Touched clock state
events_of_change clock (Some (table.Removed number)) states = events_of_removal clock (state_of number states)

-- the events of a purge and of a packet's own change, at the packet's clock
unfoldable pub events_of : Clock → Option TableChange → List State → List Event
events_of clock change states = events_of_purge clock states ++ events_of_change clock change (purged clock states)

-- ---- what events say of packets, clocks and states

-- These events were told during the first `count` packets, up to this clock, and these states are left. It holds in each world of a run.
pub record AreTold (count : ℕ) (clock : Clock) (states : List State) (events : List Event) : Type 0 where
  -- each state was made by one of the packets
  pub of_packets : All (λ state. state.number.0 ≤ count) states
  pub numbers : All (λ event. event.state.number.0 ≤ count) events
  pub clocks : All (λ event. event.clock.0 ≤ clock.0) events
  -- a state whose removal was told isn't there
  pub gone : (event : Event) (state : State) → Contains events event → Contains states state → is_removed event ≡ true → event.state.number.0 ≡ state.number.0 → ⊥

-- ---- what was told

-- At a clock, the queue has the open part of these events. Their other messages are those in `before` and then those
-- that the current packet has closed.
pub record HasTold (before : List Content) (telling : Telling) (clock : Clock) (events : List Event) : Type 0 where
  pub tells : Tells telling.queue clock events
  pub closed : closed_at telling.queue.origin clock events ≡ before ++ telling.closed.items

-- ---- the next packet

-- What the next packet may change among these states: it makes a state with its own number, or touches one of them.
abbrev pub IsNextChange : ℕ → List State → TableChange → Type 0
IsNextChange count states (table.Made state) = state.number.0 ≡ count + 1
IsNextChange count states (table.Touched state) = (before : State) × Contains states before × (state.number ≡ before.number)
IsNextChange count states (table.Removed number) = ⊤

-- ---- what is told next

-- whatever was told up to a clock, at a later one no message of an earlier second is open
abbrev pub ClosesBefore : (clock later : Clock) → (old new : Telling) → Type 0
ClosesBefore clock later old new =
    (before : List Content) (events : List Event)
    → HasTold before old clock events
    → All (λ event. event.clock.0 ≤ clock.0) events
    → HasTold before new later events

-- the same at the next packet, for which no message was closed yet
abbrev pub BeginsAt : (clock later : Clock) → (old new : Telling) → Type 0
BeginsAt clock later old new =
    (before : List Content) (events : List Event)
    → Tells old.queue clock events
    → closed_at old.queue.origin clock events ≡ before
    → All (λ event. event.clock.0 ≤ clock.0) events
    → HasTold before new later events

-- an event is told after all that may stand before it
abbrev pub TellsEvent : Event → (old new : Telling) → Type 0
TellsEvent event old new =
    (before : List Content) (events : List Event)
    → HasTold before old event.clock events
    → MayCome events event
    → HasTold before new event.clock (events ++ told event.kind event.clock event.state)

-- the removals of a purge are told, which leaves these states
abbrev pub TellsPurge : Clock → (states left : List State) → (old new : Telling) → Type 0
TellsPurge clock states left old new =
    (before : List Content) (events : List Event) (count : ℕ)
    → HasTold before old clock events
    → AreTold count clock states events
    → HasTold before new clock (events ++ events_of_purge clock states) × AreTold count clock left (events ++ events_of_purge clock states)

-- a packet's own change is told
abbrev pub TellsChange : Clock → Option TableChange → List State → (old new : Telling) → Type 0
TellsChange clock change states old new =
    (before : List Content) (events : List Event) (count : ℕ)
    → HasTold before old clock events
    → AreTold count clock states events
    → IfSome change (λ change. IsNextChange count states change)
    → HasTold before new clock (events ++ events_of_change clock change states)

-- the message that is open at a clock, if anything is told
abbrev pub ClosesOpen : Clock → Telling → Option Content → Type 0
ClosesOpen clock telling message =
    (events : List Event) → Tells telling.queue clock events → option_to_list message ≡ message_of telling.queue.origin (open_at telling.queue.origin clock events)
