-- Events of states, and what a message says of them.
use Rattle.std.specs.Prelude.{◌≡◌, ℕ, ◌-◌, ◌^◌, min, ◌==◌, Bool, true, false, nat_lt, if◌then◌else◌, List, [], slice_index_or, Option, Some, None}
use Rattle.std.specs.List.{All}
use Rattle.pfr_net.specs.Interfaces.{if_name}
use Rattle.pfr_net.specs.declared.interface.IfName.{IfName}
use Rattle.pfr_net.specs.declared.interface.InterfacePlace.{InterfacePlace}
use Rattle.pfr_net.specs.declared.rule_number.RuleNumber.{RuleNumber}
use Rattle.pfr_track.specs.declared.key.Key.{Key}
use Rattle.pfr_track.specs.declared.peers.Peers.{Peers}
use Rattle.pfr_track.specs.declared.peers.Peers.TheVariants as peers
use Rattle.pfr_track.specs.declared.state.State.{State}
use Rattle.pfr_track.specs.declared.tcp.TcpPeer.{TcpPeer}
use Rattle.pfr_track.specs.declared.time.Clock.{Clock}
use Rattle.pfr_track.specs.Datagrams as datagram
use Rattle.pfr_track.specs.Tcp as tcp
use Rattle.pfr_messages.specs.declared.records.Peer.{Peer}
use Rattle.pfr_messages.specs.declared.records.Parties.{Parties}
use Rattle.pfr_messages.specs.declared.records.Insertion.{Insertion}
use Rattle.pfr_messages.specs.declared.records.Update.{Update}
use Rattle.pfr_messages.specs.declared.records.Deletion.{Deletion}
use Rattle.pfr_sync.specs.declared.event.Event.{Event}
use Rattle.pfr_sync.specs.declared.event.EventKind.{EventKind}
use Rattle.pfr_sync.specs.declared.event.EventKind.TheVariants.{Made, Touched, Removed}
use Rattle.pfr_sync.specs.declared.origin.Origin.{Origin}

-- ---- what a record holds of a state

-- an end that has a code alone
abbrev pub coded_peer : ℕ → Peer
coded_peer code = record { low = record { 0 = 0 }; high = record { 0 = 0 }; greatest_window = 0; code = code; scale = None }

-- the shift of a window's scale, which counts up to 14
abbrev pub shift_of : Option ℕ → Option ℕ
shift_of None = None
shift_of (Some shift) = Some (min shift 14)

abbrev pub tcp_peer : TcpPeer → Peer
tcp_peer end = record { low = end.low; high = end.high; greatest_window = end.greatest_window; code = tcp.code_of end.state; scale = shift_of end.scale }

-- the ends of a state, its maker's first
abbrev pub maker_of : Peers → Peer
maker_of (peers.Tcp maker other) = tcp_peer maker
maker_of (peers.Udp maker other) = coded_peer (datagram.code_of maker)
maker_of peers.Icmp = coded_peer 0
maker_of (peers.Other maker other) = coded_peer (datagram.code_of maker)

abbrev pub other_of : Peers → Peer
other_of (peers.Tcp maker other) = tcp_peer other
other_of (peers.Udp maker other) = coded_peer (datagram.code_of other)
other_of peers.Icmp = coded_peer 0
other_of (peers.Other maker other) = coded_peer (datagram.code_of other)

abbrev pub parties_of : Key → Parties
parties_of key = record { outside = key.outside; inside = key.inside }

-- a rule whose number fits in 32 bits; no ruleset has others
abbrev pub rule_of : Option RuleNumber → Option RuleNumber
rule_of None = None
rule_of (Some rule) = if nat_lt rule.0 (2 ^ 32 - 1) then Some rule else None

-- seconds from a clock until a state's deadline; every timeout fits in 32 bits
abbrev pub remaining : Clock → State → ℕ
remaining clock state = min (state.deadline.0 - clock.0) (2 ^ 32 - 1)

-- the name of the interface at a place; behind the last place a name without letters
abbrev pub name_at : List IfName → InterfacePlace → IfName
name_at names place = slice_index_or names place.0 (if_name [])

abbrev pub insertion_of : Origin → Clock → State → Insertion
insertion_of origin clock state = record {
  number = state.number;
  interface = name_at origin.interfaces state.interface;
  wire = parties_of state.wire;
  stack = parties_of state.stack;
  maker = maker_of state.peers;
  other = other_of state.peers;
  rule = rule_of state.rules.filter;
  translation = rule_of state.rules.translation;
  age = clock.0 - state.made.0;
  remaining = remaining clock state;
  forth = state.forth;
  back = state.back;
  creator = origin.creator;
  protocol = state.wire.protocol;
  direction = state.direction;
  timeout = state.timeout;
}

abbrev pub update_of : Origin → Clock → State → Update
update_of origin clock state = record {
  number = state.number;
  maker = maker_of state.peers;
  other = other_of state.peers;
  creator = origin.creator;
  remaining = remaining clock state;
  timeout = state.timeout;
}

abbrev pub deletion_of : Origin → State → Deletion
deletion_of origin state = record { number = state.number; creator = origin.creator }

-- ---- lists of events

-- an event by its parts
abbrev pub event_of : EventKind → State → Clock → Event
event_of kind state clock = record { kind = kind; state = state; clock = clock }

abbrev pub is_of : ℕ → Event → Bool
is_of number event = event.state.number.0 == number

abbrev pub is_made : Event → Bool
is_made event = elim event.kind [ Made ↦ true | Touched ↦ false | Removed ↦ false ]

abbrev pub is_removed : Event → Bool
is_removed event = elim event.kind [ Made ↦ false | Touched ↦ false | Removed ↦ true ]

-- This event may come next: of one state, only the first event is a making, and none follows the removal.
abbrev pub MayCome : List Event → Event → Type 0
MayCome events event = All (λ before. is_of event.state.number.0 before ≡ true → (is_removed before ≡ false) × (is_made event ≡ false)) events
