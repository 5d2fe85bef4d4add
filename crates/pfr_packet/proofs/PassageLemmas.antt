-- The keys of a translated connection, and the packets that go by them.
use Rattle.std.specs.Prelude.{⊤}
use Rattle.std.proofs.Common.{◌≡◌, ℕ, Bool, true, false, cond, Some, None, refl, sym, ap, ◌∙◌, subst}
use Rattle.std.proofs.lemmas.Bool.{and_parts, eqb-true}
use Rattle.pfr_net.specs.declared.address.Ipv4Address.{Ipv4Address}
use Rattle.pfr_net.specs.declared.direction.Direction.{Direction}
use Rattle.pfr_net.specs.declared.direction.Direction.TheVariants.{In, Out}
use Rattle.pfr_net.specs.declared.endpoint.Endpoint.{Endpoint}
use Rattle.pfr_net.specs.declared.port.Port.{Port}
use Rattle.pfr_net.specs.declared.protocol.Protocol.{Protocol}
use Rattle.pfr_headers.specs.declared.change.End.{End}
use Rattle.pfr_headers.specs.declared.change.End.TheVariants.{Source, Destination}
use Rattle.pfr_headers.specs.declared.icmp.IcmpHeader.{IcmpHeader}
use Rattle.pfr_headers.specs.declared.icmp.IcmpMessage.{IcmpMessage}
use Rattle.pfr_headers.specs.declared.icmp.IcmpMessage.TheVariants as message
use Rattle.pfr_headers.specs.declared.packet.Packet.{Packet}
use Rattle.pfr_headers.specs.declared.transport.Transport.{Transport}
use Rattle.pfr_headers.specs.declared.transport.Transport.TheVariants as transport
use Rattle.pfr_headers.specs.Translated.{message_with, transport_with, translated}
use Rattle.pfr_rules.specs.declared.hit.PortMapping.{PortMapping}
use Rattle.pfr_track.specs.declared.key.Key.{Key}
use Rattle.pfr_states.specs.States.{is_same_end}
use Rattle.pfr_packet.specs.Connections.{AreAlike, GoesBy, HasEndIn, HasEndInMessage, sent_on}
use Rattle.pfr_packet.specs.declared.keys.Subject.TheVariants.{Connection}
use Rattle.pfr_packet.specs.Keys.{end_of, endpoint, key_of, message_subject, own_key, subject_by, subject_of, translated_end, written_by}
use Rattle.pfr_packet.specs.Passages.{mapped_end, with_inside}
use Rattle.pfr_packet.specs.Picks.{wire_with}

-- ---- keys and packets

abbrev port_of : ℕ → Port
port_of number = record { 0 = number }

abbrev address_of : ℕ → Ipv4Address
address_of number = record { 0 = number }

-- of the two keys the one on the packet's own side, and the one on the other
abbrev pub own_of : Direction → Key → Key → Key
own_of In wire stack = wire
own_of Out wire stack = stack

abbrev pub other_of : Direction → Key → Key → Key
other_of In wire stack = stack
other_of Out wire stack = wire

-- the ports at a connection's ends: an echo has one identifier at both, a protocol without ports has 0
abbrev pub FitPorts : Transport → Port → Port → Type 0
FitPorts (transport.Icmp header) first second = first ≡ second
FitPorts transport.Other first second = (first ≡ record { 0 = 0 }) × (second ≡ record { 0 = 0 })
FitPorts _ first second = ⊤

abbrev pub FitKey : Transport → Key → Type 0
FitKey packet key = FitPorts packet key.outside.port key.inside.port

-- outside both keys have one end, but for an echo's identifier
abbrev pub SameOutside : Transport → Key → Key → Type 0
SameOutside (transport.Icmp header) wire stack = wire.outside.address ≡ stack.outside.address
SameOutside _ wire stack = wire.outside ≡ stack.outside

-- two keys of one connection
pub record AreKeys (packet : Transport) (wire stack : Key) : Type 0 where
  pub outside : SameOutside packet wire stack
  pub wire_ports : FitKey packet wire
  pub stack_ports : FitKey packet stack

-- ---- they are of one connection

pub one_key : (t : Transport) (key : Key) → FitKey t key → AreKeys t key key
one_key transport.Fragment key fits = record { outside = refl; wire_ports = tt; stack_ports = tt }
one_key (transport.Tcp header) key fits = record { outside = refl; wire_ports = tt; stack_ports = tt }
one_key (transport.Udp header) key fits = record { outside = refl; wire_ports = tt; stack_ports = tt }
one_key (transport.Icmp header) key fits = record { outside = refl; wire_ports = fits; stack_ports = fits }
one_key transport.Other key fits = record { outside = refl; wire_ports = fits; stack_ports = fits }

turned_keys : (t : Transport) (wire stack : Key) → AreKeys t wire stack → AreKeys t stack wire
turned_keys transport.Fragment wire stack are = record { outside = sym are.outside; wire_ports = tt; stack_ports = tt }
turned_keys (transport.Tcp header) wire stack are = record { outside = sym are.outside; wire_ports = tt; stack_ports = tt }
turned_keys (transport.Udp header) wire stack are = record { outside = sym are.outside; wire_ports = tt; stack_ports = tt }
turned_keys (transport.Icmp header) wire stack are = record { outside = sym are.outside; wire_ports = are.stack_ports; stack_ports = are.wire_ports }
turned_keys transport.Other wire stack are = record { outside = sym are.outside; wire_ports = are.stack_ports; stack_ports = are.wire_ports }

mapped_keys : (t : Transport) (key : Key) (address : Ipv4Address) (mapping : PortMapping) → FitKey t key → AreKeys t (with_inside key (mapped_end t key.inside address mapping)) key
mapped_keys transport.Fragment key address mapping fits = record { outside = refl; wire_ports = tt; stack_ports = tt }
mapped_keys (transport.Tcp header) key address mapping fits = record { outside = refl; wire_ports = tt; stack_ports = tt }
mapped_keys (transport.Udp header) key address mapping fits = record { outside = refl; wire_ports = tt; stack_ports = tt }
mapped_keys (transport.Icmp header) key address mapping fits = record { outside = refl; wire_ports = fits; stack_ports = fits }
mapped_keys transport.Other key address mapping fits = record { outside = refl; wire_ports = fits; stack_ports = fits }

pub mapped_wire : (t : Transport) (key : Key) (address : Ipv4Address) (mapping : PortMapping) → FitKey t key → AreKeys t (with_inside key (mapped_end t key.inside address mapping)) key
mapped_wire = mapped_keys

pub mapped_stack : (t : Transport) (key : Key) (address : Ipv4Address) (mapping : PortMapping) → FitKey t key → AreKeys t key (with_inside key (mapped_end t key.inside address mapping))
mapped_stack t key address mapping fits = turned_keys t (with_inside key (mapped_end t key.inside address mapping)) key (mapped_keys t key address mapping fits)

-- a protocol without ports is tried with 0 alone
abbrev pub FitsTry : Transport → ℕ → Type 0
FitsTry transport.Other port = port ≡ 0
FitsTry _ port = ⊤

pub picked_keys : (t : Transport) (key : Key) (address : Ipv4Address) (port : ℕ) → FitKey t key → FitsTry t port → AreKeys t (wire_with t key address port) key
picked_keys transport.Fragment key address port fits tried = record { outside = refl; wire_ports = tt; stack_ports = tt }
picked_keys (transport.Tcp header) key address port fits tried = record { outside = refl; wire_ports = tt; stack_ports = tt }
picked_keys (transport.Udp header) key address port fits tried = record { outside = refl; wire_ports = tt; stack_ports = tt }
picked_keys (transport.Icmp header) key address port fits tried = record { outside = refl; wire_ports = refl; stack_ports = fits }
picked_keys transport.Other key address port fits tried = record { outside = refl; wire_ports = (fits.0, ap port_of tried); stack_ports = fits }

-- the keys are those of an answer too
pub alike_keys : (t u : Transport) (wire stack : Key) → AreAlike t u → AreKeys t wire stack → AreKeys u wire stack
alike_keys (transport.Tcp first) (transport.Tcp second) wire stack alike are = record { outside = are.outside; wire_ports = tt; stack_ports = tt }
alike_keys (transport.Udp first) (transport.Udp second) wire stack alike are = record { outside = are.outside; wire_ports = tt; stack_ports = tt }
alike_keys (transport.Icmp first) (transport.Icmp second) wire stack alike are = record { outside = are.outside; wire_ports = are.wire_ports; stack_ports = are.stack_ports }
alike_keys transport.Other transport.Other wire stack alike are = record { outside = are.outside; wire_ports = are.wire_ports; stack_ports = are.stack_ports }
alike_keys transport.Fragment _ wire stack alike are = absurd alike
alike_keys (transport.Tcp first) transport.Fragment wire stack alike are = absurd alike
alike_keys (transport.Tcp first) (transport.Udp second) wire stack alike are = absurd alike
alike_keys (transport.Tcp first) (transport.Icmp second) wire stack alike are = absurd alike
alike_keys (transport.Tcp first) transport.Other wire stack alike are = absurd alike
alike_keys (transport.Udp first) transport.Fragment wire stack alike are = absurd alike
alike_keys (transport.Udp first) (transport.Tcp second) wire stack alike are = absurd alike
alike_keys (transport.Udp first) (transport.Icmp second) wire stack alike are = absurd alike
alike_keys (transport.Udp first) transport.Other wire stack alike are = absurd alike
alike_keys (transport.Icmp first) transport.Fragment wire stack alike are = absurd alike
alike_keys (transport.Icmp first) (transport.Tcp second) wire stack alike are = absurd alike
alike_keys (transport.Icmp first) (transport.Udp second) wire stack alike are = absurd alike
alike_keys (transport.Icmp first) transport.Other wire stack alike are = absurd alike
alike_keys transport.Other transport.Fragment wire stack alike are = absurd alike
alike_keys transport.Other (transport.Tcp second) wire stack alike are = absurd alike
alike_keys transport.Other (transport.Udp second) wire stack alike are = absurd alike
alike_keys transport.Other (transport.Icmp second) wire stack alike are = absurd alike

-- ---- what is written makes a packet of one key one of the other

end_is : (a b : Endpoint) → a.address ≡ b.address → a.port ≡ b.port → a ≡ b
end_is a b address port = ap (λ (x : Ipv4Address). endpoint x a.port) address ∙ ap (λ (p : Port). endpoint b.address p) port

same_end : (a b : Endpoint) → is_same_end a b ≡ true → a ≡ b
same_end a b same =
    let parts = and_parts _ _ same in
    end_is a b (ap address_of (eqb-true a.address.0 b.address.0 parts.0)) (ap port_of (eqb-true a.port.0 b.port.0 parts.1))

-- if the ends inside are the same, those outside are
same_outside : (t : Transport) (wire stack : Key) → AreKeys t wire stack → wire.inside ≡ stack.inside → wire.outside ≡ stack.outside
same_outside transport.Fragment wire stack are same = are.outside
same_outside (transport.Tcp header) wire stack are same = are.outside
same_outside (transport.Udp header) wire stack are same = are.outside
same_outside (transport.Icmp header) wire stack are same =
    end_is wire.outside stack.outside are.outside (are.wire_ports ∙ ap (λ (e : Endpoint). e.port) same ∙ sym are.stack_ports)
same_outside transport.Other wire stack are same = are.outside

-- what the end that stays is known by, before and behind a translation to an end
abbrev Matches : Transport → Endpoint → Endpoint → Endpoint → Type 0
Matches (transport.Icmp header) before after to = (before.address ≡ after.address) × (after.port ≡ to.port)
Matches transport.Other before after to = (before ≡ after) × (to.port ≡ record { 0 = 0 })
Matches _ before after to = before ≡ after

keys_match : (t : Transport) (wire stack : Key) → AreKeys t wire stack → Matches t wire.outside stack.outside stack.inside
keys_match transport.Fragment wire stack are = are.outside
keys_match (transport.Tcp header) wire stack are = are.outside
keys_match (transport.Udp header) wire stack are = are.outside
keys_match (transport.Icmp header) wire stack are = (are.outside, are.stack_ports)
keys_match transport.Other wire stack are = (are.outside, are.stack_ports.1)

-- the destination is translated
echo_to : (packet : Packet) (first second after to : Endpoint) (m : IcmpMessage) → first.address ≡ after.address → after.port ≡ to.port
    → HasEndInMessage packet Source first m → HasEndInMessage packet Destination second m
    → HasEndInMessage (translated Destination to packet) Source after (message_with to.port m) × HasEndInMessage (translated Destination to packet) Destination to (message_with to.port m)
echo_to packet first second after to (message.Echo identifier) address port from_is to_is =
    (end_is after (endpoint packet.source to.port) (sym address ∙ ap (λ (e : Endpoint). e.address) from_is) port, refl)
echo_to packet first second after to (message.Error inner) address port from_is to_is = absurd from_is
echo_to packet first second after to message.Other address port from_is to_is = absurd from_is

translated_to : (packet : Packet) (first second after to : Endpoint) (t : Transport) → Matches t first after to → HasEndIn packet Source first t → HasEndIn packet Destination second t
    → HasEndIn (translated Destination to packet) Source after (transport_with Destination to.port t) × HasEndIn (translated Destination to packet) Destination to (transport_with Destination to.port t)
translated_to packet first second after to transport.Fragment stays from_is to_is = absurd from_is
translated_to packet first second after to (transport.Tcp header) stays from_is to_is = (sym stays ∙ from_is, refl)
translated_to packet first second after to (transport.Udp header) stays from_is to_is = (sym stays ∙ from_is, refl)
translated_to packet first second after to (transport.Icmp header) stays from_is to_is = echo_to packet first second after to header.message stays.0 stays.1 from_is to_is
translated_to packet first second after to transport.Other stays from_is to_is = (sym stays.0 ∙ from_is, end_is to (endpoint to.address (port_of 0)) refl stays.1)

-- the source is
echo_from : (packet : Packet) (first second after to : Endpoint) (m : IcmpMessage) → second.address ≡ after.address → after.port ≡ to.port
    → HasEndInMessage packet Source first m → HasEndInMessage packet Destination second m
    → HasEndInMessage (translated Source to packet) Source to (message_with to.port m) × HasEndInMessage (translated Source to packet) Destination after (message_with to.port m)
echo_from packet first second after to (message.Echo identifier) address port from_is to_is =
    (refl, end_is after (endpoint packet.destination to.port) (sym address ∙ ap (λ (e : Endpoint). e.address) to_is) port)
echo_from packet first second after to (message.Error inner) address port from_is to_is = absurd from_is
echo_from packet first second after to message.Other address port from_is to_is = absurd from_is

translated_from : (packet : Packet) (first second after to : Endpoint) (t : Transport) → Matches t second after to → HasEndIn packet Source first t → HasEndIn packet Destination second t
    → HasEndIn (translated Source to packet) Source to (transport_with Source to.port t) × HasEndIn (translated Source to packet) Destination after (transport_with Source to.port t)
translated_from packet first second after to transport.Fragment stays from_is to_is = absurd from_is
translated_from packet first second after to (transport.Tcp header) stays from_is to_is = (refl, sym stays ∙ to_is)
translated_from packet first second after to (transport.Udp header) stays from_is to_is = (refl, sym stays ∙ to_is)
translated_from packet first second after to (transport.Icmp header) stays from_is to_is = echo_from packet first second after to header.message stays.0 stays.1 from_is to_is
translated_from packet first second after to transport.Other stays from_is to_is = (end_is to (endpoint to.address (port_of 0)) refl stays.1, sym stays.0 ∙ to_is)

-- unless the ends inside are one the packet is translated
goes_by_test : (direction : Direction) (packet : Packet) (wire stack : Key) (same : Bool) → is_same_end wire.inside stack.inside ≡ same → AreKeys packet.transport wire stack
    → GoesBy direction packet (own_of direction wire stack)
    → GoesBy direction (sent_on packet (cond same None (Some (record { packet = packet; end = end_of direction; to = translated_end direction wire stack })))) (other_of direction wire stack)
goes_by_test In packet wire stack true is are goes =
    let inside = same_end wire.inside stack.inside is in
    let outside = same_outside packet.transport wire stack are inside in
    (subst (λ (e : Endpoint). HasEndIn packet Source e packet.transport) outside goes.0, subst (λ (e : Endpoint). HasEndIn packet Destination e packet.transport) inside goes.1)
goes_by_test Out packet wire stack true is are goes =
    let inside = same_end wire.inside stack.inside is in
    let outside = same_outside packet.transport wire stack are inside in
    (subst (λ (e : Endpoint). HasEndIn packet Source e packet.transport) (sym inside) goes.0, subst (λ (e : Endpoint). HasEndIn packet Destination e packet.transport) (sym outside) goes.1)
goes_by_test In packet wire stack false is are goes =
    translated_to packet wire.outside wire.inside stack.outside stack.inside packet.transport (keys_match packet.transport wire stack are) goes.0 goes.1
goes_by_test Out packet wire stack false is are goes =
    translated_from packet stack.inside stack.outside wire.outside wire.inside packet.transport (keys_match packet.transport stack wire (turned_keys packet.transport wire stack are)) goes.0 goes.1

pub goes_on : (direction : Direction) (packet : Packet) (wire stack : Key) → AreKeys packet.transport wire stack
    → GoesBy direction packet (own_of direction wire stack) → GoesBy direction (sent_on packet (written_by direction packet wire stack)) (other_of direction wire stack)
goes_on direction packet wire stack are goes = goes_by_test direction packet wire stack (is_same_end wire.inside stack.inside) refl are goes

-- ---- the key of a packet

echo_ports : (packet : Packet) (from to : Endpoint) (m : IcmpMessage) → HasEndInMessage packet Source from m → HasEndInMessage packet Destination to m → from.port ≡ to.port
echo_ports packet from to (message.Echo identifier) from_is to_is = ap (λ (e : Endpoint). e.port) from_is ∙ sym (ap (λ (e : Endpoint). e.port) to_is)
echo_ports packet from to (message.Error inner) from_is to_is = absurd from_is
echo_ports packet from to message.Other from_is to_is = absurd from_is

end_ports : (packet : Packet) (from to : Endpoint) (t : Transport) → HasEndIn packet Source from t → HasEndIn packet Destination to t → FitPorts t from.port to.port
end_ports packet from to transport.Fragment from_is to_is = tt
end_ports packet from to (transport.Tcp header) from_is to_is = tt
end_ports packet from to (transport.Udp header) from_is to_is = tt
end_ports packet from to (transport.Icmp header) from_is to_is = echo_ports packet from to header.message from_is to_is
end_ports packet from to transport.Other from_is to_is = (ap (λ (e : Endpoint). e.port) from_is, ap (λ (e : Endpoint). e.port) to_is)

turned_ports : (t : Transport) (first second : Port) → FitPorts t first second → FitPorts t second first
turned_ports transport.Fragment first second fit = tt
turned_ports (transport.Tcp header) first second fit = tt
turned_ports (transport.Udp header) first second fit = tt
turned_ports (transport.Icmp header) first second fit = sym fit
turned_ports transport.Other first second fit = (fit.1, fit.0)

-- a key that a packet goes by has ports that fit
pub fits : (direction : Direction) (packet : Packet) (key : Key) → GoesBy direction packet key → FitKey packet.transport key
fits In packet key goes = end_ports packet key.outside key.inside packet.transport goes.0 goes.1
fits Out packet key goes = turned_ports packet.transport key.inside.port key.outside.port (end_ports packet key.inside key.outside packet.transport goes.0 goes.1)

-- a packet that is looked up by a key goes by it
pub record IsKeyOf (direction : Direction) (packet : Packet) (key : Key) : Type 0 where
  pub protocol : key.protocol ≡ packet.protocol
  pub goes : GoesBy direction packet key

abbrev IsKeyIn : Direction → Packet → Transport → Key → Type 0
IsKeyIn In packet t key = (key.protocol ≡ packet.protocol) × HasEndIn packet Source key.outside t × HasEndIn packet Destination key.inside t
IsKeyIn Out packet t key = (key.protocol ≡ packet.protocol) × HasEndIn packet Source key.inside t × HasEndIn packet Destination key.outside t

key_is : (key other : Key) → Connection key ≡ Connection other → key ≡ other
key_is key other same = cc same

own_is : (direction : Direction) (packet : Packet) (t : Transport) (source destination : Port) (key : Key) → own_key direction packet source destination ≡ key
    → (HasEndIn packet Source (endpoint packet.source source) t) → (HasEndIn packet Destination (endpoint packet.destination destination) t) → IsKeyIn direction packet t key
own_is In packet t source destination key is from_is to_is = subst (IsKeyIn In packet t) is (refl, from_is, to_is)
own_is Out packet t source destination key is from_is to_is = subst (IsKeyIn Out packet t) is (refl, from_is, to_is)

echo_key : (direction : Direction) (packet : Packet) (header : IcmpHeader) (m : IcmpMessage) (key : Key) → header.message ≡ m → message_subject direction packet m ≡ Connection key → IsKeyIn direction packet (transport.Icmp header) key
echo_key direction packet header (message.Echo identifier) key same is =
    own_is direction packet (transport.Icmp header) (record { 0 = identifier }) (record { 0 = identifier }) key (key_is (own_key direction packet (record { 0 = identifier }) (record { 0 = identifier })) key is)
    (subst (λ (m : IcmpMessage). HasEndInMessage packet Source (endpoint packet.source (record { 0 = identifier })) m) (sym same) refl)
    (subst (λ (m : IcmpMessage). HasEndInMessage packet Destination (endpoint packet.destination (record { 0 = identifier })) m) (sym same) refl)
echo_key direction packet header (message.Error inner) key same is = absurd (cc is)
echo_key direction packet header message.Other key same is = absurd (cc is)

key_by : (direction : Direction) (packet : Packet) (t : Transport) (key : Key) → subject_by direction packet t ≡ Connection key → IsKeyIn direction packet t key
key_by direction packet transport.Fragment key is = absurd (cc is)
key_by direction packet (transport.Tcp header) key is =
    own_is direction packet (transport.Tcp header) header.source header.destination key (key_is (own_key direction packet header.source header.destination) key is) refl refl
key_by direction packet (transport.Udp header) key is =
    own_is direction packet (transport.Udp header) header.source header.destination key (key_is (own_key direction packet header.source header.destination) key is) refl refl
key_by direction packet (transport.Icmp header) key is = echo_key direction packet header header.message key refl is
key_by direction packet transport.Other key is =
    own_is direction packet transport.Other (record { 0 = 0 }) (record { 0 = 0 }) key (key_is (own_key direction packet (record { 0 = 0 }) (record { 0 = 0 })) key is) refl refl

key_goes : (direction : Direction) (packet : Packet) (key : Key) → IsKeyIn direction packet packet.transport key → IsKeyOf direction packet key
key_goes In packet key is = record { protocol = is.0; goes = (is.1, is.2) }
key_goes Out packet key is = record { protocol = is.0; goes = (is.1, is.2) }

pub key_of_subject : (direction : Direction) (packet : Packet) (key : Key) → subject_of direction packet ≡ Connection key → IsKeyOf direction packet key
key_of_subject direction packet key is = key_goes direction packet key (key_by direction packet packet.transport key is)

-- and one that goes by a key of its protocol is looked up by it
echo_subject : (direction : Direction) (packet : Packet) (m : IcmpMessage) (from to : Endpoint) → HasEndInMessage packet Source from m → HasEndInMessage packet Destination to m
    → message_subject direction packet m ≡ Connection (key_of direction packet.protocol from to)
echo_subject direction packet (message.Echo identifier) from to from_is to_is = rw (from_is, to_is) refl
echo_subject direction packet (message.Error inner) from to from_is to_is = absurd from_is
echo_subject direction packet message.Other from to from_is to_is = absurd from_is

subject_is : (direction : Direction) (packet : Packet) (t : Transport) (from to : Endpoint) → HasEndIn packet Source from t → HasEndIn packet Destination to t
    → subject_by direction packet t ≡ Connection (key_of direction packet.protocol from to)
subject_is direction packet transport.Fragment from to from_is to_is = absurd from_is
subject_is direction packet (transport.Tcp header) from to from_is to_is = rw (from_is, to_is) refl
subject_is direction packet (transport.Udp header) from to from_is to_is = rw (from_is, to_is) refl
subject_is direction packet (transport.Icmp header) from to from_is to_is = echo_subject direction packet header.message from to from_is to_is
subject_is direction packet transport.Other from to from_is to_is = rw (from_is, to_is) refl

abbrev with_protocol : Key → Protocol → Key
with_protocol key protocol = record { protocol = protocol; outside = key.outside; inside = key.inside }

protocol_is : (protocol : Protocol) (key : Key) → key.protocol ≡ protocol → with_protocol key protocol ≡ key
protocol_is protocol key is = ap (λ (p : Protocol). with_protocol key p) (sym is)

pub subject_of_key : (direction : Direction) (packet : Packet) (key : Key) → key.protocol ≡ packet.protocol → GoesBy direction packet key → subject_of direction packet ≡ Connection key
subject_of_key In packet key is goes = subject_is In packet packet.transport key.outside key.inside goes.0 goes.1 ∙ ap (λ (k : Key). Connection k) (protocol_is packet.protocol key is)
subject_of_key Out packet key is goes = subject_is Out packet packet.transport key.inside key.outside goes.0 goes.1 ∙ ap (λ (k : Key). Connection k) (protocol_is packet.protocol key is)

-- ---- one end stands at an end

one_of_message : (packet : Packet) (end : End) (a b : Endpoint) (m : IcmpMessage) → HasEndInMessage packet end a m → HasEndInMessage packet end b m → a ≡ b
one_of_message packet end a b (message.Echo identifier) first second = first ∙ sym second
one_of_message packet end a b (message.Error inner) first second = absurd first
one_of_message packet end a b message.Other first second = absurd first

pub one_end : (packet : Packet) (end : End) (a b : Endpoint) (t : Transport) → HasEndIn packet end a t → HasEndIn packet end b t → a ≡ b
one_end packet end a b transport.Fragment first second = absurd first
one_end packet end a b (transport.Tcp header) first second = first ∙ sym second
one_end packet end a b (transport.Udp header) first second = first ∙ sym second
one_end packet end a b (transport.Icmp header) first second = one_of_message packet end a b header.message first second
one_end packet end a b transport.Other first second = first ∙ sym second
