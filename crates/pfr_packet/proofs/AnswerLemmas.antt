-- What becomes of an answer to a packet that made a state.
use Rattle.std.proofs.Common.{◌≡◌, Bool, true, false, cond, Option, Some, None, refl, sym, ◌∙◌, subst}
use Rattle.std.specs.List.{Contains}
use Rattle.std.proofs.lemmas.Bool.{and_from, eq-eqb}
use Rattle.pfr_net.specs.declared.direction.Direction.{Direction}
use Rattle.pfr_net.specs.declared.direction.Direction.TheVariants.{In, Out}
use Rattle.pfr_net.specs.declared.interface.Binding.{Binding}
use Rattle.pfr_net.specs.declared.interface.Binding.TheVariants.{All, To}
use Rattle.pfr_net.specs.declared.interface.InterfacePlace.{InterfacePlace}
use Rattle.pfr_net.specs.Interfaces.{meets}
use Rattle.pfr_net.specs.declared.endpoint.Endpoint.{Endpoint}
use Rattle.pfr_net.specs.declared.port.Port.{Port}
use Rattle.pfr_headers.specs.declared.change.Change.{Change}
use Rattle.pfr_headers.specs.declared.change.End.{End}
use Rattle.pfr_headers.specs.declared.change.End.TheVariants.{Source, Destination}
use Rattle.pfr_headers.specs.declared.icmp.IcmpHeader.{IcmpHeader}
use Rattle.pfr_headers.specs.declared.packet.Packet.{Packet}
use Rattle.pfr_headers.specs.declared.tcp.TcpHeader.{TcpHeader}
use Rattle.pfr_headers.specs.declared.transport.Transport.{Transport}
use Rattle.pfr_headers.specs.declared.transport.Transport.TheVariants as transport
use Rattle.pfr_headers.specs.declared.udp.UdpHeader.{UdpHeader}
use Rattle.pfr_headers.specs.Translated.{message_with, tcp_with, transport_with, udp_with}
use Rattle.pfr_track.specs.declared.key.Key.{Key}
use Rattle.pfr_track.specs.declared.state.State.{State}
use Rattle.pfr_states.specs.declared.change.Side.{Side}
use Rattle.pfr_states.specs.declared.change.Side.TheVariants.{Wire, Stack}
use Rattle.pfr_states.specs.Answers.{found_in}
use Rattle.pfr_states.specs.Indexed.{covers}
use Rattle.pfr_states.specs.States.{IsTable, StateTable, is_found, is_same_end, is_same_key, key_on}
use Rattle.pfr_states.proofs.FindLemmas.{found_only}
use Rattle.pfr_states.proofs.OwnKeys.{one_found}
use Rattle.pfr_packet.specs.Connections.{IsAnswerTo, AreAlike, GoesBack, GoesBy, GoesFrom, HasEndIn, KnowsBothSides, sent_on}
use Rattle.pfr_packet.specs.Keys.{end_of, opposite, translated_end, written_by}
use Rattle.pfr_packet.proofs.ConnectionLemmas.{IsKeyed}
use Rattle.pfr_packet.proofs.PassageLemmas.{AreKeys, alike_keys, goes_on, one_end, other_of, subject_of_key}

-- ---- ends

same_ends : (packet : Packet) (from to first second : Endpoint) → GoesFrom packet from to → GoesFrom packet first second → (from ≡ first) × (to ≡ second)
same_ends packet from to first second one other = (one_end packet Source from first packet.transport one.0 other.0, one_end packet Destination to second packet.transport one.1 other.1)

with_ends : (packet : Packet) (from to first second : Endpoint) → from ≡ first → to ≡ second → GoesFrom packet from to → GoesFrom packet first second
with_ends packet from to first second one other goes =
    (subst (λ (e : Endpoint). HasEndIn packet Source e packet.transport) one goes.0, subst (λ (e : Endpoint). HasEndIn packet Destination e packet.transport) other goes.1)

-- what goes back from where a packet by a key was sent to goes by that key the other way
pub answer_by : (direction : Direction) (sent answer : Packet) (key : Key) (from to : Endpoint) → GoesBy direction sent key → GoesFrom sent from to → GoesFrom answer to from → GoesBy (opposite direction) answer key
answer_by In sent answer key from to by goes back =
    let ends = same_ends sent from to key.outside key.inside goes by in with_ends answer to from key.inside key.outside ends.1 ends.0 back
answer_by Out sent answer key from to by goes back =
    let ends = same_ends sent from to key.inside key.outside goes by in with_ends answer to from key.outside key.inside ends.1 ends.0 back

-- and what goes by a key the other way goes back to where a packet by that key came from
back_by : (direction : Direction) (packet back : Packet) (key : Key) → GoesBy direction packet key → GoesBy (opposite direction) back key → (from to : Endpoint) → GoesFrom packet from to → GoesFrom back to from
back_by In packet back key by other from to goes =
    let ends = same_ends packet from to key.outside key.inside goes by in with_ends back key.inside key.outside to from (sym ends.1) (sym ends.0) other
back_by Out packet back key by other from to goes =
    let ends = same_ends packet from to key.inside key.outside goes by in with_ends back key.outside key.inside to from (sym ends.1) (sym ends.0) other

-- ---- what a translation keeps

alike_tcp : (header other : TcpHeader) (u : Transport) → AreAlike (transport.Tcp other) u → AreAlike (transport.Tcp header) u
alike_tcp header other transport.Fragment alike = alike
alike_tcp header other (transport.Tcp second) alike = tt
alike_tcp header other (transport.Udp second) alike = alike
alike_tcp header other (transport.Icmp second) alike = alike
alike_tcp header other transport.Other alike = alike

alike_udp : (header other : UdpHeader) (u : Transport) → AreAlike (transport.Udp other) u → AreAlike (transport.Udp header) u
alike_udp header other transport.Fragment alike = alike
alike_udp header other (transport.Tcp second) alike = alike
alike_udp header other (transport.Udp second) alike = tt
alike_udp header other (transport.Icmp second) alike = alike
alike_udp header other transport.Other alike = alike

alike_icmp : (header other : IcmpHeader) (u : Transport) → AreAlike (transport.Icmp other) u → AreAlike (transport.Icmp header) u
alike_icmp header other transport.Fragment alike = alike
alike_icmp header other (transport.Tcp second) alike = alike
alike_icmp header other (transport.Udp second) alike = alike
alike_icmp header other (transport.Icmp second) alike = tt
alike_icmp header other transport.Other alike = alike

alike_with : (end : End) (port : Port) (t u : Transport) → AreAlike (transport_with end port t) u → AreAlike t u
alike_with end port transport.Fragment u alike = alike
alike_with end port (transport.Tcp header) u alike = alike_tcp header (tcp_with end port header) u alike
alike_with end port (transport.Udp header) u alike = alike_udp header (udp_with end port header) u alike
alike_with end port (transport.Icmp header) u alike = alike_icmp header (record header { message = message_with port header.message }) u alike
alike_with end port transport.Other u alike = alike

-- protocol and kind of the packet as it is sent on
abbrev Kept : Packet → Packet → Type 0
Kept packet sent = (sent.protocol ≡ packet.protocol) × ((u : Transport) → AreAlike sent.transport u → AreAlike packet.transport u)

kept_by : (direction : Direction) (packet : Packet) (wire stack : Key) (same : Bool)
    → Kept packet (sent_on packet (cond same None (Some (record { packet = packet; end = end_of direction; to = translated_end direction wire stack }))))
kept_by direction packet wire stack true = (refl, λ u alike. alike)
kept_by In packet wire stack false = (refl, λ u alike. alike_with Destination stack.inside.port packet.transport u alike)
kept_by Out packet wire stack false = (refl, λ u alike. alike_with Source wire.inside.port packet.transport u alike)

-- ---- the packet that makes a state

sent_by : (direction : Direction) (packet : Packet) (bytes : Option Change) (state : State) → IsKeyed direction packet bytes state → GoesBy direction (sent_on packet bytes) (other_of direction state.wire state.stack)
sent_by direction packet bytes state keyed =
    subst (λ (b : Option Change). GoesBy direction (sent_on packet b) (other_of direction state.wire state.stack)) (sym keyed.written)
    (goes_on direction packet state.wire state.stack keyed.through.are keyed.through.goes)

pub knows : (direction : Direction) (packet : Packet) (bytes : Option Change) (state : State) → IsKeyed direction packet bytes state → KnowsBothSides direction packet (sent_on packet bytes) state
knows In packet bytes state keyed = record {
  direction_is = keyed.direction_is;
  wire_protocol = keyed.through.wire_protocol;
  stack_protocol = keyed.through.stack_protocol;
  captured = keyed.through.goes;
  is_sent = sent_by In packet bytes state keyed;
}
knows Out packet bytes state keyed = record {
  direction_is = keyed.direction_is;
  wire_protocol = keyed.through.wire_protocol;
  stack_protocol = keyed.through.stack_protocol;
  captured = keyed.through.goes;
  is_sent = sent_by Out packet bytes state keyed;
}

-- ---- the answer

same_key : (key : Key) → is_same_key key key ≡ true
same_key key = rw (eq-eqb key.protocol.0 key.protocol.0 refl, eq-eqb key.outside.address.0 key.outside.address.0 refl, eq-eqb key.outside.port.0 key.outside.port.0 refl, eq-eqb key.inside.address.0 key.inside.address.0 refl, eq-eqb key.inside.port.0 key.inside.port.0 refl) refl

covers_met : (bound : Binding) (place : InterfacePlace) → meets bound (To place) ≡ true → covers bound (To place) ≡ true
covers_met All place met = refl
covers_met (To other) place met = met

pub found_by : (table : StateTable) (side : Side) (state : State) (place : InterfacePlace) → IsTable table → Contains table.states state → meets state.rules.binding (To place) ≡ true → found_in table side (key_on side state) (To place) ≡ Some state
unfolding found_in
found_by table side state place is_table is_there met =
    let key = key_on side state in
    let is_it = and_from (is_same_key key key) (meets state.rules.binding (To place)) (same_key key) met in
    found_only (is_found side key (To place)) table.states state is_there is_it
    (λ other among found. one_found side key (To place) table.states is_table.own_keys state other is_there among (covers_met state.rules.binding place met) is_it found)

-- an answer goes by the key on its own side
answer_keyed : (direction : Direction) (packet answer : Packet) (bytes : Option Change) (state : State) → IsKeyed direction packet bytes state → IsAnswerTo (sent_on packet bytes) answer
    → (GoesBy (opposite direction) answer (other_of direction state.wire state.stack)) × (answer.protocol ≡ packet.protocol) × AreKeys answer.transport state.wire state.stack
answer_keyed direction packet answer bytes state keyed is =
    let kept : Kept packet (sent_on packet bytes) =
    subst (λ (b : Option Change). Kept packet (sent_on packet b)) (sym keyed.written) (kept_by direction packet state.wire state.stack (is_same_end state.wire.inside state.stack.inside)) in (
      answer_by direction (sent_on packet bytes) answer (other_of direction state.wire state.stack) is.from is.to (sent_by direction packet bytes state keyed) is.was_sent is.comes_back,
      is.protocol_is ∙ kept.0,
      alike_keys packet.transport answer.transport state.wire state.stack (kept.1 answer.transport is.is_alike) keyed.through.are,
    )

pub goes_back : (direction : Direction) (packet answer : Packet) (bytes : Option Change) (state : State) → IsKeyed direction packet bytes state → IsAnswerTo (sent_on packet bytes) answer → GoesBack direction packet answer state
goes_back In packet answer bytes state keyed is =
    let own = answer_keyed In packet answer bytes state keyed is in record {
      key = state.stack;
      looked_up = subject_of_key Out answer state.stack (keyed.through.stack_protocol ∙ sym own.1) own.0;
      is_found = λ table place is_table is_there met. found_by table Stack state place is_table is_there met;
      goes_back = back_by In packet (sent_on answer (written_by Out answer state.wire state.stack)) state.wire keyed.through.goes (goes_on Out answer state.wire state.stack own.2 own.0);
    }
goes_back Out packet answer bytes state keyed is =
    let own = answer_keyed Out packet answer bytes state keyed is in record {
      key = state.wire;
      looked_up = subject_of_key In answer state.wire (keyed.through.wire_protocol ∙ sym own.1) own.0;
      is_found = λ table place is_table is_there met. found_by table Wire state place is_table is_there met;
      goes_back = back_by Out packet (sent_on answer (written_by In answer state.wire state.stack)) state.stack keyed.through.goes (goes_on In answer state.wire state.stack own.2 own.0);
    }
