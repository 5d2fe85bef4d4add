-- Words of the laws on connections: where a packet comes from and where it goes, the keys of the state that it makes,
-- and what becomes of an answer to it (pf.conf(5), "Translation": packets of a state's connection are translated as its
-- first one).
use Rattle.std.specs.Prelude.{◌≡◌, ℕ, true, false, Option, Some, None, ⊤}
use Rattle.std.specs.List.{Contains}
use Rattle.pfr_net.specs.declared.direction.Direction.{Direction}
use Rattle.pfr_net.specs.declared.direction.Direction.TheVariants.{In, Out}
use Rattle.pfr_net.specs.declared.interface.Binding.TheVariants.{To}
use Rattle.pfr_net.specs.declared.interface.InterfacePlace.{InterfacePlace}
use Rattle.pfr_net.specs.Interfaces.{meets}
use Rattle.pfr_net.specs.declared.endpoint.Endpoint.{Endpoint}
use Rattle.pfr_headers.specs.declared.change.Change.{Change}
use Rattle.pfr_headers.specs.declared.change.End.{End}
use Rattle.pfr_headers.specs.declared.change.End.TheVariants.{Source, Destination}
use Rattle.pfr_headers.specs.declared.icmp.IcmpMessage.{IcmpMessage}
use Rattle.pfr_headers.specs.declared.icmp.IcmpMessage.TheVariants as message
use Rattle.pfr_headers.specs.declared.packet.Packet.{Packet}
use Rattle.pfr_headers.specs.declared.packet.View.TheVariants.{Ipv4}
use Rattle.pfr_headers.specs.declared.transport.Transport.{Transport}
use Rattle.pfr_headers.specs.declared.transport.Transport.TheVariants as transport
use Rattle.pfr_headers.specs.Laws.{of_end}
use Rattle.pfr_headers.specs.Translated.{translated}
use Rattle.pfr_track.specs.declared.key.Key.{Key}
use Rattle.pfr_track.specs.declared.state.State.{State}
use Rattle.pfr_track.specs.declared.time.Clock.{Clock}
use Rattle.pfr_states.specs.declared.change.TableChange.TheVariants.{Made}
use Rattle.pfr_states.specs.Answers.{found_in}
use Rattle.pfr_states.specs.States.{IsTable, StateTable, lives}
use Rattle.pfr_packet.specs.declared.keys.Subject.TheVariants.{Connection}
use Rattle.pfr_packet.specs.declared.outcome.Outcome.{Outcome}
use Rattle.pfr_packet.specs.Job.{RunJob, direction_of, is_skipped}
use Rattle.pfr_packet.specs.Keys.{opposite, side_of, subject_of, written_by}
use Rattle.pfr_packet.specs.Steps.{step_of}
use Rattle.pfr_packet.specs.Taps.{is_translated}
use Rattle.pfr_packet.specs.Verdicts.{lets_pass}

-- ---- the ends of a packet

-- What stands at an end of a packet, as connections are known by it: its address, with the port of TCP or UDP, an
-- echo's identifier, or 0 for a protocol without ports. A part of a packet and any other ICMP message belong to no
-- connection.
abbrev pub HasEndInMessage : Packet → End → Endpoint → IcmpMessage → Type 0
HasEndInMessage packet end at (message.Echo identifier) = at ≡ record { address = of_end end packet.source packet.destination; port = record { 0 = identifier } }
HasEndInMessage packet end at (message.Error inner) = ⊥
HasEndInMessage packet end at message.Other = ⊥

abbrev pub HasEndIn : Packet → End → Endpoint → Transport → Type 0
HasEndIn packet end at transport.Fragment = ⊥
HasEndIn packet end at (transport.Tcp header) = at ≡ record { address = of_end end packet.source packet.destination; port = of_end end header.source header.destination }
HasEndIn packet end at (transport.Udp header) = at ≡ record { address = of_end end packet.source packet.destination; port = of_end end header.source header.destination }
HasEndIn packet end at (transport.Icmp header) = HasEndInMessage packet end at header.message
HasEndIn packet end at transport.Other = at ≡ record { address = of_end end packet.source packet.destination; port = record { 0 = 0 } }

abbrev pub HasEnd : Packet → End → Endpoint → Type 0
HasEnd packet end at = HasEndIn packet end at packet.transport

abbrev pub GoesFrom : Packet → Endpoint → Endpoint → Type 0
GoesFrom packet from to = HasEnd packet Source from × HasEnd packet Destination to

-- the packet as it is sent on, by what is written into it
abbrev pub sent_on : Packet → Option Change → Packet
sent_on packet None = packet
sent_on packet (Some change) = translated change.end change.to change.packet

-- ---- the packet that makes a state

-- a packet that comes in goes from the end outside to the one inside, a packet that goes out the other way
abbrev pub GoesBy : Direction → Packet → Key → Type 0
GoesBy In packet key = GoesFrom packet key.outside key.inside
GoesBy Out packet key = GoesFrom packet key.inside key.outside

-- what comes in was captured on the wire
abbrev pub CapturedBy : Direction → Packet → State → Type 0
CapturedBy In packet state = GoesBy In packet state.wire
CapturedBy Out packet state = GoesBy Out packet state.stack

-- what goes out is sent on to the wire
abbrev pub SentBy : Direction → Packet → State → Type 0
SentBy In sent state = GoesBy In sent state.stack
SentBy Out sent state = GoesBy Out sent state.wire

-- A state knows the connection of the packet that made it, on both sides of the firewall: the captured packet goes by
-- the key on the packet's own side, the packet as it is sent on by the key on the other side.
pub record KnowsBothSides (direction : Direction) (packet sent : Packet) (state : State) : Type 0 where
  pub direction_is : state.direction ≡ direction
  pub wire_protocol : state.wire.protocol ≡ packet.protocol
  pub stack_protocol : state.stack.protocol ≡ packet.protocol
  pub captured : CapturedBy direction packet state
  pub is_sent : SentBy direction sent state

-- ---- an answer to it

-- both of TCP, both of UDP, both of ICMP, or both of a protocol without ports
abbrev pub AreAlike : Transport → Transport → Type 0
AreAlike (transport.Tcp first) (transport.Tcp second) = ⊤
AreAlike (transport.Udp first) (transport.Udp second) = ⊤
AreAlike (transport.Icmp first) (transport.Icmp second) = ⊤
AreAlike transport.Other transport.Other = ⊤
AreAlike _ _ = ⊥

-- a packet of the same protocol that goes back from where another was sent to
pub record IsAnswerTo (sent answer : Packet) : Type 0 where
  pub protocol_is : answer.protocol ≡ sent.protocol
  pub is_alike : AreAlike sent.transport answer.transport
  pub from : Endpoint
  pub to : Endpoint
  pub was_sent : GoesFrom sent from to
  pub comes_back : GoesFrom answer to from

-- An answer finds the state. With what the state writes into it, it goes back to the sender of the packet.
pub record GoesBack (direction : Direction) (packet answer : Packet) (state : State) : Type 0 where
  pub key : Key
  pub looked_up : subject_of (opposite direction) answer ≡ Connection key
  -- in each table that has the state, on each interface to which the state is bound
  pub is_found : (table : StateTable) (place : InterfacePlace) → IsTable table → Contains table.states state → meets state.rules.binding (To place) ≡ true → found_in table (side_of (opposite direction)) key (To place) ≡ Some state
  pub goes_back : (from to : Endpoint) → GoesFrom packet from to → GoesFrom (sent_on answer (written_by (opposite direction) answer state.wire state.stack)) to from

-- a state as later packets of its connection leave it
pub record IsLater (state later : State) : Type 0 where
  pub wire_is : later.wire ≡ state.wire
  pub stack_is : later.stack ≡ state.stack
  pub direction_is : later.direction ≡ state.direction

-- what the answer comes to: it names the state, and if it passes it goes back to the sender of the packet
pub record IsBroughtBack (packet answer : Packet) (state : State) (outcome : Outcome) : Type 0 where
  pub named : outcome.state ≡ Some state.number
  pub goes_back : (from to : Endpoint) → lets_pass outcome.verdict ≡ true → GoesFrom packet from to → GoesFrom (sent_on answer outcome.bytes) to from

-- ---- what the laws say

-- the captured packet goes by the state's key on its own side, the packet that is sent on by the key on the other side
abbrev pub StateKnowsBothSides : Type 0
StateKnowsBothSides =
    (job : RunJob) (number : ℕ) (clock : Clock) (place : InterfacePlace) (packet : Packet) (table : StateTable) (state : State)
    → (step_of job number clock place (Ipv4 packet) table).change ≡ Some (Made state)
    → KnowsBothSides (direction_of job place packet) packet (sent_on packet (step_of job number clock place (Ipv4 packet) table).bytes) state

-- an answer to what was sent on finds the state, and goes back to the first sender
abbrev pub AnswersGoBack : Type 0
AnswersGoBack =
    (job : RunJob) (number : ℕ) (clock : Clock) (place : InterfacePlace) (packet answer : Packet) (table : StateTable) (state : State)
    → (step_of job number clock place (Ipv4 packet) table).change ≡ Some (Made state)
    → IsAnswerTo (sent_on packet (step_of job number clock place (Ipv4 packet) table).bytes) answer
    → GoesBack (direction_of job place packet) packet answer state

-- and so it is evaluated on each interface to which the state is bound and which is filtered as the packet's own is,
-- over each later table in which the state still lives, if it isn't shown behind its translation
abbrev pub AnswersAreBroughtBack : Type 0
AnswersAreBroughtBack =
    (job : RunJob) (number next : ℕ) (clock now : Clock) (place back : InterfacePlace) (packet answer : Packet) (table after : StateTable) (state later : State)
    → (step_of job number clock place (Ipv4 packet) table).change ≡ Some (Made state)
    → IsAnswerTo (sent_on packet (step_of job number clock place (Ipv4 packet) table).bytes) answer
    → direction_of job back answer ≡ opposite (direction_of job place packet)
    → is_translated job.tap (direction_of job back answer) ≡ false
    → IsTable after
    → Contains after.states later
    → lives now later ≡ true
    → IsLater state later
    → meets later.rules.binding (To back) ≡ true
    → is_skipped job back ≡ is_skipped job place
    → IsBroughtBack packet answer later (step_of job next now back (Ipv4 answer) after)
