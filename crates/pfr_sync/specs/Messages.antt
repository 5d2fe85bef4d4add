-- The messages of a list of events: it is cut into parts, and each part in which something is told gives one message.
use Rattle.std.specs.Prelude.{ℕ, ◌==◌, ◌&&◌, Bool, true, false, nat_lt, nat_le, if◌then◌else◌, List, [], ◌∷◌, ◌++◌, length, map, fold, Option, Some, None}
use Rattle.std.specs.List.{filter, flat_map}
use Rattle.pfr_track.specs.declared.time.Clock.{Clock}
use Rattle.pfr_messages.specs.Messages.{Content, spelling}
use Rattle.pfr_sync.specs.declared.event.Event.{Event}
use Rattle.pfr_sync.specs.declared.origin.Origin.{Origin}
use Rattle.pfr_sync.specs.declared.queue.QueuedState.{QueuedState}
use Rattle.pfr_sync.specs.declared.queue.Action.TheVariants.{Insert, Update, Delete}
use Rattle.pfr_sync.specs.Events.{deletion_of, insertion_of, is_made, is_of, is_removed, update_of}

-- ---- what a part tells

-- rising numbers with a further one among them, each once
abbrev pub with_number : ℕ → List ℕ → List ℕ
with_number n [] = n ∷ []
with_number n (m ∷ numbers) =
    if nat_lt n m then n ∷ m ∷ numbers else
    if n == m then m ∷ numbers else m ∷ with_number n numbers

-- the numbers of the states of events, rising, each once
abbrev pub numbers_of : List Event → List ℕ
numbers_of events = fold (λ numbers event. with_number event.state.number.0 numbers) [] events

abbrev pub last_of : Event → List Event → Event
last_of event [] = event
last_of event (next ∷ events) = last_of next events

-- What is told of a state by its first event and its last one. If it was made, an insertion, or nothing if it is removed again; else a
-- deletion if it is removed, and an update if it isn't. The state is that of the last event.
abbrev pub told_by : Event → Event → Option QueuedState
told_by first last =
    if is_made first
    then (if is_removed last then None else Some (record { action = Insert; state = last.state }))
    else (if is_removed last then Some (record { action = Delete; state = last.state }) else Some (record { action = Update; state = last.state }))

abbrev pub told_of : List Event → Option QueuedState
told_of [] = None
told_of (event ∷ events) = told_by event (last_of event events)

-- what events tell of the states of these numbers
abbrev pub entries_by : List Event → List ℕ → List QueuedState
entries_by events [] = []
entries_by events (n ∷ numbers) = elim (told_of (filter (is_of n) events)) [
  | None ↦ entries_by events numbers
  | Some entry ↦ entry ∷ entries_by events numbers
]

-- what events tell, by rising number
abbrev pub entries_of : List Event → List QueuedState
entries_of events = entries_by events (numbers_of events)

-- ---- a part's message

abbrev pub is_insert : QueuedState → Bool
is_insert entry = elim entry.action [ Insert ↦ true | Update ↦ false | Delete ↦ false ]

abbrev pub is_update : QueuedState → Bool
is_update entry = elim entry.action [ Insert ↦ false | Update ↦ true | Delete ↦ false ]

abbrev pub is_delete : QueuedState → Bool
is_delete entry = elim entry.action [ Insert ↦ false | Update ↦ false | Delete ↦ true ]

-- the message that tells entries at a clock
abbrev pub content_of : Origin → Clock → List QueuedState → Content
content_of origin clock entries = record {
  checksum = origin.checksum;
  insertions = map (λ entry. insertion_of origin clock entry.state) (filter is_insert entries);
  updates = map (λ entry. update_of origin clock entry.state) (filter is_update entries);
  deletions = map (λ entry. deletion_of origin entry.state) (filter is_delete entries);
}

-- a message has at most 1480 bytes: 1500 with the IP header before it
abbrev pub is_short : Origin → Clock → List QueuedState → Bool
is_short origin clock entries = nat_le (length (spelling (content_of origin clock entries))) 1480

-- ---- parts

-- events cut into parts, of which the last one may go on
pub record Parts : Type 0 where
  pub closed : List (List Event)
  pub last : List Event

-- an event belongs to a part: it comes at the part's clock, and the part's message still has room for what it tells
abbrev pub belongs : Origin → List Event → Event → Bool
belongs origin [] event = true
belongs origin (first ∷ part) event =
    first.clock.0 == event.clock.0 && is_short origin event.clock (entries_of ((first ∷ part) ++ event ∷ []))

abbrev pub with_event : Origin → Parts → Event → Parts
with_event origin parts event =
    if belongs origin parts.last event
    then record { closed = parts.closed; last = parts.last ++ event ∷ [] }
    else record { closed = parts.closed ++ parts.last ∷ []; last = event ∷ [] }

-- The parts of events: each ends before the first event that has a later clock, or with which the part's message and
-- its IP header would have more than 1500 bytes.
abbrev pub parts_of : Origin → List Event → Parts
parts_of origin events = fold (with_event origin) (record { closed = []; last = [] }) events

-- the message of a part, at the part's clock; none if nothing is told
abbrev pub messages_by : Origin → Clock → List QueuedState → List Content
messages_by origin clock [] = []
messages_by origin clock (entry ∷ entries) = content_of origin clock (entry ∷ entries) ∷ []

abbrev pub message_of : Origin → List Event → List Content
message_of origin [] = []
message_of origin (first ∷ part) = messages_by origin first.clock (entries_of (first ∷ part))

-- the messages of events
abbrev pub messages_of : Origin → List Event → List Content
messages_of origin events =
    let parts = parts_of origin events in flat_map (message_of origin) parts.closed ++ message_of origin parts.last

-- ---- a moment

-- the last part, if it may still go on at a clock
abbrev pub going_on : Clock → List Event → List Event
going_on clock [] = []
going_on clock (first ∷ part) = if first.clock.0 == clock.0 then first ∷ part else []

abbrev pub over : Origin → Clock → List Event → List Content
over origin clock [] = []
over origin clock (first ∷ part) = if first.clock.0 == clock.0 then [] else message_of origin (first ∷ part)

-- the part of events that is open at a clock
abbrev pub open_at : Origin → Clock → List Event → List Event
open_at origin clock events = going_on clock (parts_of origin events).last

-- the messages of the other parts, which no later event changes
abbrev pub closed_at : Origin → Clock → List Event → List Content
closed_at origin clock events =
    let parts = parts_of origin events in flat_map (message_of origin) parts.closed ++ over origin clock parts.last
