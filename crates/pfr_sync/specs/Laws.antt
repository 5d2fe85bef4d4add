-- The statements of the laws.
use Rattle.std.specs.Prelude.{◌≡◌, ◌≤◌, ◌<◌, ℕ, ◌+◌, ◌-◌, ◌^◌, min, ◌==◌, ◌&&◌, Bool, true, false, not, if◌then◌else◌, List, [], ◌∷◌, ◌++◌, length, map, take, drop, slice_get, fold, Option, Some, None, Ok, option_map, ⊤}
use Rattle.std.specs.Int.{to_be_bytes, w8, w16, w32, w64}
use Rattle.std.specs.List.{All, IsDistinct, filter, flat_map, list_any}
use Rattle.pfr_net.specs.declared.address.Ipv4Address.{Ipv4Address}
use Rattle.pfr_net.specs.declared.direction.Direction.{Direction}
use Rattle.pfr_net.specs.declared.direction.Direction.TheVariants.{In, Out}
use Rattle.pfr_net.specs.declared.interface.IfName.{IfName}
use Rattle.pfr_net.specs.declared.rule_number.RuleNumber.{RuleNumber}
use Rattle.pfr_net.specs.Timeouts as timeouts
use Rattle.pfr_headers.specs.declared.packet.Packet.{Packet}
use Rattle.pfr_headers.specs.declared.packet.View.TheVariants.{Ipv4}
use Rattle.pfr_headers.specs.declared.transport.Transport.TheVariants.{Other}
use Rattle.pfr_headers.specs.Checksum.{Verifies, sum_of_words}
use Rattle.pfr_headers.specs.View.{view_of}
use Rattle.pfr_messages.specs.declared.records.Insertion.{Insertion}
use Rattle.pfr_messages.specs.declared.records.Update.{Update}
use Rattle.pfr_messages.specs.declared.records.Deletion.{Deletion}
use Rattle.pfr_messages.specs.Messages.{Content}
use Rattle.pfr_messages.specs.Records.{deletion, insertion, update}
use Rattle.pfr_standby.specs.declared.kept.Kept.{Kept}
use Rattle.pfr_standby.specs.Standby.{Standing, rises, standby_of, state_of}
use Rattle.pfr_track.specs.declared.key.Key.{Key}
use Rattle.pfr_track.specs.declared.peers.Peers.{Peers}
use Rattle.pfr_track.specs.declared.peers.Peers.TheVariants as peers
use Rattle.pfr_track.specs.declared.state.State.{State}
use Rattle.pfr_track.specs.declared.tcp.TcpPeer.{TcpPeer}
use Rattle.pfr_track.specs.declared.time.Clock.{Clock}
use Rattle.pfr_track.specs.Datagrams as datagram
use Rattle.pfr_track.specs.Tcp as tcp
use Rattle.pfr_sync.specs.declared.event.Event.{Event}
use Rattle.pfr_sync.specs.declared.origin.Origin.{Origin}
use Rattle.pfr_sync.specs.Events.{MayCome, deletion_of, insertion_of, is_made, is_of, is_removed, maker_of, name_at, other_of, parties_of, rule_of, update_of}
use Rattle.pfr_sync.specs.Files.{ip_header}
use Rattle.pfr_sync.specs.Messages.{last_of, message_of, messages_of, parts_of}
use Rattle.pfr_sync.specs.Queues.{plain_name, plain_names}

-- the messages of the parts of events that are closed
abbrev pub closed_of : Origin → List Event → List Content
closed_of origin events = flat_map (message_of origin) (parts_of origin events).closed

-- with more events, the closed messages begin with these
abbrev pub ClosedMessagesStay : Type 0
ClosedMessagesStay =
    (origin : Origin) (events more : List Event) → (rest : List Content) × (closed_of origin (events ++ more) ≡ closed_of origin events ++ rest)

-- the checksum of the header before a message in a file verifies
abbrev pub FileHeaderVerifies : Type 0
FileHeaderVerifies = (source : Ipv4Address) (len : ℕ) → source.0 < 2 ^ 32 → len ≤ 1480 → Verifies (sum_of_words 10 (ip_header source len))

-- the packet of a message of `len` bytes: protocol 240, from a source to 224.0.0.240, with no options
abbrev pub packet_of_message : Ipv4Address → ℕ → Packet
packet_of_message source len = record {
  sender = None;
  header_length = 20;
  total_length = len + 20;
  protocol = record { 0 = 240 };
  source = source;
  destination = record { 0 = 0xe00000f0 };
  transport = Other;
}

-- a text with the header before it, seen as raw IP (link type 101), is that packet
abbrev pub FileMessageIsAPacket : Type 0
FileMessageIsAPacket =
    (source : Ipv4Address) (text : List ℕ) → source.0 < 2 ^ 32 → length text ≤ 1480
    → view_of 101 (ip_header source (length text) ++ text) ≡ Ipv4 (packet_of_message source (length text))

-- the numbers of the states in a message
abbrev pub numbers_in : Content → List ℕ
numbers_in content =
    map (λ r. r.number.0) content.insertions ++ map (λ r. r.number.0) content.updates ++ map (λ r. r.number.0) content.deletions

-- each message of events tells of a state at most once
abbrev pub AStateIsToldOfOnce : Type 0
AStateIsToldOfOnce =
    (origin : Origin) (events : List Event) → All (λ content. IsDistinct (λ n m. n == m) (numbers_in content)) (messages_of origin events)

-- ---- a standby

-- a number is among others
abbrev pub has : ℕ → List ℕ → Bool
has n numbers = list_any (λ m. m == n) numbers

-- the numbers held after a message: its insertions are added, and then its deletions are removed
abbrev pub numbers_after : List ℕ → Content → List ℕ
numbers_after numbers content =
    filter (λ n. not (has n (map (λ r. r.number.0) content.deletions))) (numbers ++ map (λ r. r.number.0) content.insertions)

-- the numbers held after messages
abbrev pub held_after : List Content → List ℕ
held_after contents = fold numbers_after [] contents

-- the events of one state leave it in the table: the first is its making, and the last isn't its removal
abbrev pub leave_it : List Event → Bool
leave_it [] = false
leave_it (first ∷ events) = is_made first && not (is_removed (last_of first events))

-- events leave the state of a number in the table
abbrev pub is_left : ℕ → List Event → Bool
is_left n events = leave_it (filter (is_of n) events)

-- each event may come after those before it, and the first one of a state is its making
pub record IsHistory (events : List Event) : Type 0 where
  pub may_come : (before : List Event) (event : Event) (more : List Event) → events ≡ before ++ event ∷ more → MayCome before event
  pub begins :
      (before : List Event) (event : Event) (more : List Event) → events ≡ before ++ event ∷ more
      → list_any (is_of event.state.number.0) before ≡ false → is_made event ≡ true

-- a standby that applies the messages of events holds the numbers of the states that they leave, and no others
abbrev pub AStandbyHoldsWhatIsLeft : Type 0
AStandbyHoldsWhatIsLeft =
    (origin : Origin) (events : List Event) → IsHistory events → (n : ℕ) → has n (held_after (messages_of origin events)) ≡ is_left n events

-- ---- the states that a standby holds

-- what a standby keeps of a state that is inserted, at whatever clock and by whatever firewall
abbrev pub kept_by : State → Kept
kept_by state = record {
  wire = parties_of state.wire;
  stack = parties_of state.stack;
  protocol = state.wire.protocol;
  direction = state.direction;
  rule = rule_of state.rules.filter;
  maker = maker_of state.peers;
  other = other_of state.peers;
  timeout = state.timeout;
}

-- the state after the last of the events of one state, if they leave it in the table
abbrev pub left_by : List Event → Option State
left_by [] = None
left_by (first ∷ events) = if leave_it (first ∷ events) then Some (last_of first events).state else None

-- the state of a number as events leave it in the table
abbrev pub left : ℕ → List Event → Option State
left n events = left_by (filter (is_of n) events)

-- two states have the same keys, direction and rule
pub record AreOfOne (first other : State) : Type 0 where
  pub wire : first.wire ≡ other.wire
  pub stack : first.stack ≡ other.stack
  pub direction : first.direction ≡ other.direction
  pub rule : first.rules.filter ≡ other.rules.filter

-- the states of events have the keys, the direction and the rule of the first one
abbrev pub StayOfOne : List Event → Type 0
StayOfOne [] = ⊤
StayOfOne (first ∷ events) = All (λ event. AreOfOne first.state event.state) events

-- a history in which all events of a number are of one connection
pub record IsHistoryOfStates (events : List Event) : Type 0 where
  pub history : IsHistory events
  pub of_one : (n : ℕ) → StayOfOne (filter (is_of n) events)

-- A standby that takes the messages of events refuses none, and holds each state as the events leave it, and no other state.
abbrev pub AStandbyHoldsTheStatesLeft : Type 0
AStandbyHoldsTheStatesLeft =
    (origin : Origin) (events : List Event) → IsHistoryOfStates events
    → (standing : Standing) × (standby_of (messages_of origin events) ≡ Ok standing) × (rises standing ≡ true)
    × ((n : ℕ) → state_of n standing ≡ option_map kept_by (left n events))

-- ---- the bytes of records (docs/FORMATS.md, "Bytes of a message")

-- the bytes of a field: `size` of them from an offset on
abbrev pub field : ℕ → ℕ → List ℕ → List ℕ
field offset size bytes = take size (drop offset bytes)

-- a key, 36 bytes from an offset on
pub record IsKeyAt (offset : ℕ) (key : Key) (bytes : List ℕ) : Type 0 where
  pub outside_address : field offset 4 bytes ≡ to_be_bytes w32 key.outside.address.0
  pub inside_address : field (offset + 16) 4 bytes ≡ to_be_bytes w32 key.inside.address.0
  pub outside_port : field (offset + 32) 2 bytes ≡ to_be_bytes w16 key.outside.port.0
  pub inside_port : field (offset + 34) 2 bytes ≡ to_be_bytes w16 key.inside.port.0

-- the shift that an end of TCP offered: 0x80 and the shift, which counts as 14 if it is above (RFC 7323, section 2.3);
-- 0 for none
abbrev pub offered : Option ℕ → ℕ
offered None = 0
offered (Some shift) = 0x80 + min shift 14

-- an end of TCP, 32 bytes from an offset on
pub record IsTcpEndAt (offset : ℕ) (end : TcpPeer) (bytes : List ℕ) : Type 0 where
  pub low : field (offset + 8) 4 bytes ≡ to_be_bytes w32 end.low.0
  pub high : field (offset + 12) 4 bytes ≡ to_be_bytes w32 end.high.0
  pub greatest_window : field (offset + 20) 2 bytes ≡ to_be_bytes w16 end.greatest_window
  pub code : field (offset + 24) 1 bytes ≡ tcp.code_of end.state ∷ []
  pub scale : field (offset + 25) 1 bytes ≡ offered end.scale ∷ []

-- an end of another protocol, by the code of what it has reached: what only TCP has is 0
pub record IsCodeAt (offset : ℕ) (reached : ℕ) (bytes : List ℕ) : Type 0 where
  pub low : field (offset + 8) 4 bytes ≡ to_be_bytes w32 0
  pub high : field (offset + 12) 4 bytes ≡ to_be_bytes w32 0
  pub greatest_window : field (offset + 20) 2 bytes ≡ to_be_bytes w16 0
  pub code : field (offset + 24) 1 bytes ≡ reached ∷ []
  pub scale : field (offset + 25) 1 bytes ≡ 0 ∷ []

-- the ends of a state: its maker's from the first offset on, the other one from the second on
abbrev pub AreEndsAt : ℕ → ℕ → Peers → List ℕ → Type 0
AreEndsAt first second (peers.Tcp maker other) bytes = IsTcpEndAt first maker bytes × IsTcpEndAt second other bytes
AreEndsAt first second (peers.Udp maker other) bytes =
    IsCodeAt first (datagram.code_of maker) bytes × IsCodeAt second (datagram.code_of other) bytes
AreEndsAt first second peers.Icmp bytes = IsCodeAt first 0 bytes × IsCodeAt second 0 bytes
AreEndsAt first second (peers.Other maker other) bytes =
    IsCodeAt first (datagram.code_of maker) bytes × IsCodeAt second (datagram.code_of other) bytes

-- the number of a rule: ffffffff for none, and no ruleset has a rule of a greater number
abbrev pub rule_number : Option RuleNumber → ℕ
rule_number None = 0xffffffff
rule_number (Some rule) = min rule.0 0xffffffff

abbrev pub way : Direction → ℕ
way In = 1
way Out = 2

-- the seconds from a clock until a state is no more; every timeout fits in 32 bits
abbrev pub seconds_left : Clock → State → ℕ
seconds_left clock state = min (state.deadline.0 - clock.0) 0xffffffff

-- the bytes of a state that came to be, told at a clock (INS, 242 bytes): each field at its offset
pub record IsStateRecord (origin : Origin) (clock : Clock) (state : State) (bytes : List ℕ) : Type 0 where
  pub number : field 0 8 bytes ≡ to_be_bytes w64 state.number.0
  pub interface : field 8 16 bytes ≡ (name_at origin.interfaces state.interface).bytes
  pub wire : IsKeyAt 24 state.wire bytes
  pub stack : IsKeyAt 60 state.stack bytes
  pub ends : AreEndsAt 96 128 state.peers bytes
  pub rule : field 176 4 bytes ≡ to_be_bytes w32 (rule_number state.rules.filter)
  pub translation : field 184 4 bytes ≡ to_be_bytes w32 (rule_number state.rules.translation)
  pub age : field 188 4 bytes ≡ to_be_bytes w32 (clock.0 - state.made.0)
  pub remaining : field 192 4 bytes ≡ to_be_bytes w32 (seconds_left clock state)
  pub packets_forth : field 196 8 bytes ≡ to_be_bytes w64 state.forth.packets
  pub packets_back : field 204 8 bytes ≡ to_be_bytes w64 state.back.packets
  pub bytes_forth : field 212 8 bytes ≡ to_be_bytes w64 state.forth.bytes
  pub bytes_back : field 220 8 bytes ≡ to_be_bytes w64 state.back.bytes
  pub creator : field 228 4 bytes ≡ to_be_bytes w32 origin.creator
  pub protocol : field 233 1 bytes ≡ to_be_bytes w8 state.wire.protocol.0
  pub direction : field 234 1 bytes ≡ way state.direction ∷ []
  pub timeout : field 239 1 bytes ≡ timeouts.code_of state.timeout ∷ []

-- the bytes of a state that moved on, told at a clock (UPD_C, 84 bytes)
pub record IsUpdateRecord (origin : Origin) (clock : Clock) (state : State) (bytes : List ℕ) : Type 0 where
  pub number : field 0 8 bytes ≡ to_be_bytes w64 state.number.0
  pub ends : AreEndsAt 8 40 state.peers bytes
  pub creator : field 72 4 bytes ≡ to_be_bytes w32 origin.creator
  pub remaining : field 76 4 bytes ≡ to_be_bytes w32 (seconds_left clock state)
  pub timeout : field 80 1 bytes ≡ timeouts.code_of state.timeout ∷ []

-- the bytes of a state that is gone (DEL_C, 12 bytes)
pub record IsDeletionRecord (origin : Origin) (state : State) (bytes : List ℕ) : Type 0 where
  pub number : field 0 8 bytes ≡ to_be_bytes w64 state.number.0
  pub creator : field 8 4 bytes ≡ to_be_bytes w32 origin.creator

-- the records that are made of a state have these bytes; the name of its interface has 16 bytes with its zeros
abbrev pub InsertionsNameTheState : Type 0
InsertionsNameTheState =
    (origin : Origin) (clock : Clock) (state : State) → length (name_at origin.interfaces state.interface).bytes ≡ 16
    → IsStateRecord origin clock state (insertion.spelling (insertion_of origin clock state))

-- what all messages of a run have in common, with the names of its interfaces by their places
abbrev pub origin_with : List IfName → (checksum : List ℕ) → (creator : ℕ) → Origin
origin_with names checksum creator = record { interfaces = plain_names names; checksum = checksum; creator = creator }

-- An insertion names the interface that made the state: if a name stands at that interface's place, which is one of the
-- first eight, the record's name is this one, up to its first zero, with zeros behind it.
abbrev pub InsertionsNameTheInterface : Type 0
InsertionsNameTheInterface =
    (names : List IfName) (checksum : List ℕ) (creator : ℕ) (clock : Clock) (state : State) (name : IfName)
    → state.interface.0 < 8 → slice_get names state.interface.0 ≡ Some name
    → field 8 16 (insertion.spelling (insertion_of (origin_with names checksum creator) clock state)) ≡ (plain_name name).bytes

abbrev pub UpdatesNameTheState : Type 0
UpdatesNameTheState =
    (origin : Origin) (clock : Clock) (state : State) → IsUpdateRecord origin clock state (update.spelling (update_of origin clock state))

abbrev pub DeletionsNameTheState : Type 0
DeletionsNameTheState =
    (origin : Origin) (state : State) → IsDeletionRecord origin state (deletion.spelling (deletion_of origin state))

-- ---- the events that records tell of

-- the first event of a number is its making
abbrev pub is_new : ℕ → List Event → Bool
is_new n [] = false
is_new n (event ∷ events) = if is_of n event then is_made event else is_new n events

-- an event of a part, which has no later event of the same state
pub record IsLastOfItsState (event : Event) (part : List Event) : Type 0 where
  pub before : List Event
  pub after : List Event
  pub is : part ≡ before ++ event ∷ after
  pub none_follows : list_any (is_of event.state.number.0) after ≡ false

-- A record is made of the clock and the state of an event of a part, the last one of its state there. `makes` is whether the first
-- event of the state there is its making, `removes` whether the last one is its removal.
pub record IsOfAnEvent {R : Type 0} (made_of : Clock → State → R) (makes removes : Bool) (part : List Event) (told : R) : Type 0 where
  pub event : Event
  pub last : IsLastOfItsState event part
  pub is : told ≡ made_of event.clock event.state
  pub begins : is_new event.state.number.0 part ≡ makes
  pub ends : is_removed event ≡ removes

-- an insertion is of a state whose first event in the part is its making, and whose last one isn't its removal
abbrev pub IsAnInsertion : Origin → List Event → Insertion → Type 0
IsAnInsertion origin part told = IsOfAnEvent (insertion_of origin) true false part told

-- an update is of a state whose first event in the part isn't its making, and whose last one isn't its removal
abbrev pub IsAnUpdate : Origin → List Event → Update → Type 0
IsAnUpdate origin part told = IsOfAnEvent (update_of origin) false false part told

-- a deletion is of a state whose first event in the part isn't its making, and whose last one is its removal
abbrev pub IsADeletion : Origin → List Event → Deletion → Type 0
IsADeletion origin part told = IsOfAnEvent (λ clock. deletion_of origin) false true part told

-- A message tells of a part of events, which follow one another and are all of one clock. Each of its records is of an event of the part.
pub record TellsOfEvents (origin : Origin) (events : List Event) (content : Content) : Type 0 where
  pub clock : Clock
  pub before : List Event
  pub part : List Event
  pub after : List Event
  pub is : events ≡ before ++ part ++ after
  pub at_clock : All (λ event. event.clock ≡ clock) part
  pub insertions : All (IsAnInsertion origin part) content.insertions
  pub updates : All (IsAnUpdate origin part) content.updates
  pub deletions : All (IsADeletion origin part) content.deletions

-- each record of each message of events is of one of the events
abbrev pub RecordsAreOfEvents : Type 0
RecordsAreOfEvents = (origin : Origin) (events : List Event) → All (TellsOfEvents origin events) (messages_of origin events)
