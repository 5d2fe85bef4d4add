-- What a rule pins is what a packet has that it holds for.
use Rattle.std.proofs.Common.{◌≡◌, ◌≤◌, ◌+◌, ◌-◌, ◌*◌, ◌/◌, ◌^◌, ℕ, suc, Bool, true, false, Option, Some, None, List, [], ◌∷◌, if◌then◌else◌, refl, ap, sym, ◌∙◌, subst, arith}
use Rattle.std.proofs.Math.Nat.{mul-div_cancel, div-div-eq-div-mul}
use Rattle.std.proofs.lemmas.Bool.{and_parts, eqb-true, leb-true}
use Rattle.std.proofs.lemmas.Nat.{pow_pos, pow-add}
use Rattle.pfr_net.specs.Networks.{prefix}
use Rattle.pfr_net.specs.declared.network.Net.{Net}
use Rattle.pfr_net.specs.declared.protocol.Protocol.{Protocol}
use Rattle.pfr_net.specs.declared.interface.IfName.{IfName}
use Rattle.pfr_ruleset.specs.Shapes.{pinned_protocol, pinned_icmp, pinned_port, pinned_network, is_pinned, has_bits, covers, key, key_of_rule, shape_at, shape_place, value_in, bits_in, address_in, pins_of}
use Rattle.pfr_ruleset.specs.declared.criterion.Asked.{Asked}
use Rattle.pfr_ruleset.specs.declared.flat.PacketMatch.{PacketMatch}
use Rattle.pfr_ruleset.specs.declared.hosts.HostCriterion.{HostCriterion}
use Rattle.pfr_ruleset.specs.declared.hosts.HostSet.{HostSet}
use Rattle.pfr_ruleset.specs.declared.hosts.HostSet.TheVariants as set
use Rattle.pfr_net.specs.declared.icmp_match.IcmpMatch.{IcmpMatch}
use Rattle.pfr_net.specs.declared.port_match.PortMatch.{PortMatch}
use Rattle.pfr_net.specs.declared.port_match.PortMatch.TheVariants as port
use Rattle.pfr_net.specs.declared.port_match.Comparison.TheVariants as comparison
use Rattle.pfr_ruleset.specs.declared.shape.Pins.{Pins}
use Rattle.pfr_ruleset.specs.declared.shape.Shape.{Shape}
use Rattle.pfr_ruleset.specs.declared.table.Entry.{Entry}
use Rattle.pfr_headers.specs.declared.packet.Packet.{Packet}
use Rattle.pfr_headers.specs.declared.transport.Transport.{Transport}
use Rattle.pfr_headers.specs.declared.transport.Transport.TheVariants as t
use Rattle.pfr_criteria.specs.Hosts.{host_holds}
use Rattle.pfr_criteria.specs.Packets.{protocol_holds, match_holds}
use Rattle.pfr_criteria.specs.Pins.{icmp_kind, pins_in}
use Rattle.pfr_criteria.specs.Transports.{port_holds, port_asked, source_port, destination_port, icmp_holds}

-- ---- numbers

protocol_agrees : (pins : Bool) (written : Option Protocol) (number : ℕ) → is_pinned pins (pinned_protocol written) ≡ true → protocol_holds written number ≡ true → value_in pins (pinned_protocol written) ≡ value_in pins (Some number)
protocol_agrees false written number pinned holds = refl
protocol_agrees true None number pinned holds = absurd cc
protocol_agrees true (Some written) number pinned holds = eqb-true written.0 number holds

icmp_agrees : (pins : Bool) (written : Option IcmpMatch) (transport : Transport) → is_pinned pins (pinned_icmp written) ≡ true → icmp_holds written transport ≡ true → value_in pins (pinned_icmp written) ≡ value_in pins (icmp_kind transport)
unfolding icmp_holds
icmp_agrees false written transport pinned holds = refl
icmp_agrees true None transport pinned holds = absurd cc
icmp_agrees true (Some written) (t.Icmp header) pinned holds = eqb-true written.kind header.kind.0 (and_parts _ _ holds).0
icmp_agrees true (Some written) (t.Tcp header) pinned holds = absurd cc
icmp_agrees true (Some written) (t.Udp header) pinned holds = absurd cc
icmp_agrees true (Some written) t.Fragment pinned holds = absurd cc
icmp_agrees true (Some written) t.Other pinned holds = absurd cc

port_agrees : (pins : Bool) (written : Option PortMatch) (number : Option ℕ) → is_pinned pins (pinned_port written) ≡ true → port_asked written number ≡ true → value_in pins (pinned_port written) ≡ value_in pins number
unfolding port_holds
port_agrees false written number pinned holds = refl
port_agrees true None number pinned holds = absurd cc
port_agrees true (Some (port.Compare comparison.Equal written)) (Some number) pinned holds = sym (eqb-true number written holds)
port_agrees true (Some (port.Compare comparison.Equal written)) None pinned holds = absurd cc
port_agrees true (Some other) number pinned holds = absurd cc

-- ---- addresses

quotients_agree : (a b low high : ℕ) → a / low ≡ b / low → a / (low * high) ≡ b / (low * high)
quotients_agree a b low high agree = sym (div-div-eq-div-mul a low high) ∙ ap (λ n. n / high) agree ∙ div-div-eq-div-mul b low high

-- addresses that agree in some bits agree in fewer
fewer_agree : (few many a b : ℕ) → few ≤ many → prefix many a ≡ prefix many b → prefix few a ≡ prefix few b
unfolding prefix
fewer_agree few many a b less agree =
    let low = 2 ^ (32 - many) in
    let positive = pow_pos (32 - many) in
    let front : a / low ≡ b / low = sym (mul-div_cancel (a / low) {n = low} positive) ∙ ap (λ n. n / low) agree ∙ mul-div_cancel (b / low) {n = low} positive in
    let between = (32 - few) - (32 - many) in
    let sum : (32 - many) + between ≡ 32 - few = omega arith in
    let wide : low * 2 ^ between ≡ 2 ^ (32 - few) = sym (pow-add 2 (32 - many) between) ∙ ap (λ n. 2 ^ n) sum in
    subst (λ size. a / size * size ≡ b / size * size) wide (ap (λ n. n * (low * 2 ^ between)) (quotients_agree a b low (2 ^ between) front))

network_agrees : (bits : Option ℕ) (network : Net) (address : ℕ) → has_bits bits (Some network) ≡ true → prefix network.bits address ≡ prefix network.bits network.address.0 → bits_in bits network.address.0 ≡ bits_in bits address
network_agrees None network address covered agree = refl
network_agrees (Some bits) network address covered agree = fewer_agree bits network.bits network.address.0 address (leb-true bits network.bits covered) (sym agree)

-- a rule that pins no network covers just the shapes that pin none of the address's bits
nothing_agrees : (bits : Option ℕ) (address : ℕ) → has_bits bits None ≡ true → 0 ≡ bits_in bits address
nothing_agrees None address covered = refl
nothing_agrees (Some bits) address covered = absurd cc

hosts_agree : (bits : Option ℕ) (tables : List (List Entry)) (is_negated : Bool) (hosts : HostSet) (address : ℕ)
    → (let criterion : HostCriterion = record { is_negated = is_negated; hosts = hosts } in has_bits bits (pinned_network criterion) ≡ true → host_holds tables criterion address ≡ true → address_in bits (pinned_network criterion) ≡ bits_in bits address)
unfolding host_holds
hosts_agree bits tables true hosts address covered holds = nothing_agrees bits address covered
hosts_agree bits tables false (set.Network network) address covered holds = network_agrees bits network address covered (eqb-true _ _ holds)
hosts_agree bits tables false set.Any address covered holds = nothing_agrees bits address covered
hosts_agree bits tables false (set.Range first last) address covered holds = nothing_agrees bits address covered
hosts_agree bits tables false (set.Table place) address covered holds = nothing_agrees bits address covered

address_agrees : (bits : Option ℕ) (tables : List (List Entry)) (criterion : HostCriterion) (address : ℕ) → has_bits bits (pinned_network criterion) ≡ true → host_holds tables criterion address ≡ true → address_in bits (pinned_network criterion) ≡ bits_in bits address
address_agrees bits tables criterion address covered holds = hosts_agree bits tables criterion.is_negated criterion.hosts address covered holds

-- ---- all of them

pins_by : ℕ → ℕ → ℕ → ℕ → ℕ → ℕ → Pins
pins_by protocol icmp source source_port destination destination_port =
    record { protocol = protocol; icmp = icmp; source = source; source_port = source_port; destination = destination; destination_port = destination_port }

same_pins : (a b : Pins) → a.protocol ≡ b.protocol → a.icmp ≡ b.icmp → a.source ≡ b.source → a.source_port ≡ b.source_port → a.destination ≡ b.destination → a.destination_port ≡ b.destination_port → a ≡ b
unfolding pins_by
same_pins a b protocol icmp source source_port destination destination_port =
    ap (λ x. pins_by x a.icmp a.source a.source_port a.destination a.destination_port) protocol
    ∙ ap (λ x. pins_by b.protocol x a.source a.source_port a.destination a.destination_port) icmp
    ∙ ap (λ x. pins_by b.protocol b.icmp x a.source_port a.destination a.destination_port) source
    ∙ ap (λ x. pins_by b.protocol b.icmp b.source x a.destination a.destination_port) source_port
    ∙ ap (λ x. pins_by b.protocol b.icmp b.source b.source_port x a.destination_port) destination
    ∙ ap (λ x. pins_by b.protocol b.icmp b.source b.source_port b.destination x) destination_port

pub pins_agree : (shape : Shape) (asked : PacketMatch) (name : IfName) (tables : List (List Entry)) (packet : Packet) → covers shape asked ≡ true → match_holds asked name tables packet ≡ true → pins_of shape asked ≡ pins_in shape packet
unfolding covers match_holds pins_of pins_in
pins_agree shape asked name tables packet covered holds =
    let c1 = and_parts _ _ covered in
    let c2 = and_parts _ _ c1.1 in
    let c3 = and_parts _ _ c2.1 in
    let c4 = and_parts _ _ c3.1 in
    let c5 = and_parts _ _ c4.1 in
    let h1 = and_parts _ _ holds in
    let h2 = and_parts _ _ h1.1 in
    let h3 = and_parts _ _ h2.1 in
    let h4 = and_parts _ _ h3.1 in
    let h5 = and_parts _ _ h4.1 in
    let h6 = and_parts _ _ h5.1 in
    same_pins (pins_of shape asked) (pins_in shape packet)
    (protocol_agrees shape.protocol asked.protocol packet.protocol.0 c1.0 h1.0)
    (icmp_agrees shape.icmp asked.icmp packet.transport c2.0 h5.0)
    (address_agrees shape.source tables asked.source packet.source.0 c3.0 h6.1)
    (port_agrees shape.source_port asked.source_port (source_port packet.transport) c4.0 h4.0)
    (address_agrees shape.destination tables asked.destination packet.destination.0 c5.0 h6.0)
    (port_agrees shape.destination_port asked.destination_port (destination_port packet.transport) c5.1 h3.0)

-- ---- keys

first_covers : (covered : Bool) (shape : Shape) (shapes : List Shape) (asked : PacketMatch) → covers shape asked ≡ covered → covers (shape_at shapes (shape_place shapes asked)) asked ≡ true
    → covers (shape_at (shape ∷ shapes) (if covered then 0 else suc (shape_place shapes asked))) asked ≡ true
first_covers true shape shapes asked is rest = is
first_covers false shape shapes asked is rest = rest

-- the shape that a rule counts as of pins nothing that the rule doesn't pin
place_covers : (shapes : List Shape) (asked : PacketMatch) → covers (shape_at shapes (shape_place shapes asked)) asked ≡ true
unfolding covers shape_place
place_covers [] asked = refl
place_covers (shape ∷ shapes) asked = first_covers (covers shape asked) shape shapes asked refl (place_covers shapes asked)

-- if a rule holds, its key is the key of the packet's values of its shape
pub keys_agree : (shapes : List Shape) (size : ℕ) (asked : Asked) (name : IfName) (tables : List (List Entry)) (packet : Packet) → match_holds asked.packet name tables packet ≡ true
    → key_of_rule shapes size asked ≡ key (shape_place shapes asked.packet) (pins_in (shape_at shapes (shape_place shapes asked.packet)) packet) size
unfolding key_of_rule
keys_agree shapes size asked name tables packet holds =
    let place = shape_place shapes asked.packet in
    ap (λ pins. key place pins size) (pins_agree (shape_at shapes place) asked.packet name tables packet (place_covers shapes asked.packet) holds)
