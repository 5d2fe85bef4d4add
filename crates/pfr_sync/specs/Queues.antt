-- The queue: what the open part tells so far, one entry per state.
use Rattle.std.specs.Prelude.{◌≡◌, ◌≤◌, ◌<◌, ℕ, ◌==◌, ◌&&◌, Bool, true, nat_lt, if◌then◌else◌, List, [], ◌∷◌, ◌++◌, length, map, take, Option, Some, None}
use Rattle.std.specs.List.{All, cons_option, list_all}
use lib.ListN.{replicate}
use Rattle.pfr_net.specs.Interfaces.{if_name}
use Rattle.pfr_net.specs.declared.interface.IfName.{IfName}
use Rattle.pfr_track.specs.declared.time.Clock.{Clock}
use Rattle.pfr_messages.specs.Fields.{name}
use Rattle.pfr_messages.specs.Messages.{Content}
use Rattle.pfr_sync.specs.declared.event.Event.{Event}
use Rattle.pfr_sync.specs.declared.event.EventKind.TheVariants.{Made, Touched, Removed}
use Rattle.pfr_sync.specs.declared.origin.Origin.{Origin}
use Rattle.pfr_sync.specs.declared.queue.QueuedState.{QueuedState}
use Rattle.pfr_sync.specs.declared.queue.Action.{Action}
use Rattle.pfr_sync.specs.declared.queue.Action.TheVariants.{Insert, Update, Delete}
use Rattle.pfr_sync.specs.Events.{MayCome}
use Rattle.pfr_sync.specs.Messages.{closed_at, entries_of, is_short, messages_by, messages_of, open_at}

-- what a queue holds; the clock is that of the last event
pub record Queued : Type 0 where
  pub origin : Origin
  pub clock : Clock
  pub entries : List QueuedState

-- nothing is told yet
abbrev pub new_queue : Origin → Queued
new_queue origin = record { origin = origin; clock = record { 0 = 0 }; entries = [] }

abbrev pub number_of : QueuedState → ℕ
number_of entry = entry.state.number.0

-- the entry of a state if nothing was told of it in the part
abbrev pub begun : Event → QueuedState
begun event = elim event.kind [
  | Made ↦ record { action = Insert; state = event.state }
  | Touched ↦ record { action = Update; state = event.state }
  | Removed ↦ record { action = Delete; state = event.state }
]

-- the entry of a state of which an action was told; none if it was inserted and is removed again
abbrev pub followed : Action → Event → Option QueuedState
followed Insert event = elim event.kind [
  | Made ↦ Some (record { action = Insert; state = event.state })
  | Touched ↦ Some (record { action = Insert; state = event.state })
  | Removed ↦ None
]
followed action event = elim event.kind [
  | Made ↦ Some (record { action = Update; state = event.state })
  | Touched ↦ Some (record { action = Update; state = event.state })
  | Removed ↦ Some (record { action = Delete; state = event.state })
]

-- what is told with one event more
abbrev pub with_entry : Event → List QueuedState → List QueuedState
with_entry event [] = begun event ∷ []
with_entry event (entry ∷ entries) =
    if nat_lt event.state.number.0 (number_of entry) then begun event ∷ entry ∷ entries else
    if event.state.number.0 == number_of entry then cons_option (followed entry.action event) entries else
    entry ∷ with_entry event entries

-- something is told that is older than a clock
abbrev pub has_older : Queued → Clock → Bool
has_older queue clock = nat_lt 0 (length queue.entries) && nat_lt queue.clock.0 clock.0

-- the message that closes before an event: the open one, if it is older than the event or has no room for it
abbrev pub closed_before : Queued → Event → List Content
closed_before queue event =
    if has_older queue event.clock then messages_by queue.origin queue.clock queue.entries else
    if is_short queue.origin event.clock (with_entry event queue.entries) then [] else
    messages_by queue.origin event.clock queue.entries

-- what is told then: the event alone, if a message closed
abbrev pub after : Queued → Event → List QueuedState
after queue event =
    if has_older queue event.clock then with_entry event [] else
    if is_short queue.origin event.clock (with_entry event queue.entries) then with_entry event queue.entries else
    with_entry event []

-- ---- names

abbrev pub before_zero : List ℕ → List ℕ
before_zero [] = []
before_zero (b ∷ bytes) = if b == 0 then [] else b ∷ before_zero bytes

-- a name as messages have it: what stands before its first zero
abbrev pub plain_name : IfName → IfName
plain_name name = if_name (before_zero name.bytes)

-- The names of a run's first eight interfaces by their places, as messages have them, and names without letters if
-- there are fewer.
unfoldable pub plain_names : List IfName → List IfName
plain_names names = take 8 (map plain_name names ++ replicate 8 (if_name []))

-- ---- what every queue keeps

abbrev pub rise : List QueuedState → Bool
rise [] = true
rise (entry ∷ entries) = list_all (λ other. nat_lt (number_of entry) (number_of other)) entries && rise entries

pub record IsQueue (origin : Origin) (entries : List QueuedState) : Type 0 where
  -- each name is one as messages have it
  pub interfaces : All (λ n. name.fits n ≡ true) origin.interfaces
  pub checksum : length origin.checksum ≡ 16
  pub in_order : rise entries ≡ true
  -- the open message isn't too long, at any clock
  pub short : (clock : Clock) → is_short origin clock entries ≡ true

-- ---- the events of a queue

-- the queue has the entries of the part of events that is open at a clock
abbrev pub HasOpen : Queued → Clock → List Event → Type 0
HasOpen queue clock events = queue.entries ≡ entries_of (open_at queue.origin clock events)

-- and if there are any, the clock is the queue's
abbrev pub Tells : Queued → Clock → List Event → Type 0
Tells queue clock events = HasOpen queue clock events × (0 < length queue.entries → queue.clock ≡ clock)

-- an event comes after these: at their clock, or later than all of them
abbrev pub ComesAfter : Clock → List Event → Event → Type 0
ComesAfter clock events event =
    clock.0 ≤ event.clock.0 × (clock.0 < event.clock.0 → All (λ before. before.clock.0 ≤ clock.0) events) × MayCome events event

-- An event makes one queue of another, and closes messages, for every list of events that the queue tells: the new queue tells the
-- list with the event, and the messages are what that list closes.
abbrev pub Takes : Queued → Event → Queued → List Content → Type 0
Takes old event new closed =
    (events : List Event) (clock : Clock) → Tells old clock events → ComesAfter clock events event
    → Tells new event.clock (events ++ event ∷ [])
    × (closed_at old.origin event.clock (events ++ event ∷ []) ≡ closed_at old.origin clock events ++ closed)

-- The open message is closed at a clock, and the next one begins with an event.
pub record Restarts (old : Queued) (closing : Clock) (event : Event) (new : Queued) (closed : List Content) : Type 0 where
  pub message : closed ≡ messages_by old.origin closing old.entries
  pub next : new ≡ record { origin = old.origin; clock = event.clock; entries = begun event ∷ [] }

-- The open message of every list of events whose open part the queue has, closed at that part's clock: it is what each later clock
-- closes.
abbrev pub ClosesLater : Queued → Clock → Queued → List Content → Type 0
ClosesLater old clock new closed =
    (events : List Event) (later : Clock) → HasOpen old clock events → All (λ event. event.clock.0 ≤ clock.0) events → clock.0 < later.0
    → Tells new later events × (closed_at old.origin later events ≡ closed_at old.origin clock events ++ closed)

-- it is the last message of the list
abbrev pub ClosesLast : Queued → Clock → List Content → Type 0
ClosesLast old clock closed =
    (events : List Event) → HasOpen old clock events → messages_of old.origin events ≡ closed_at old.origin clock events ++ closed
