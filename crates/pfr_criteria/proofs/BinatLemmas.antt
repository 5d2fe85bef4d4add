-- A `binat` rule holds both ways.
use Rattle.std.proofs.Common.{◌≡◌, ◌↔◌, ◌==◌, ◌&&◌, ℕ, Bool, true, false, Option, None, List, refl, ap, sym, ◌∙◌, subst, arith}
use Rattle.std.proofs.lemmas.Bool.{eq-eqb, eqb-true}
use Rattle.pfr_net.specs.Networks.{prefix}
use Rattle.pfr_net.specs.declared.address.Ipv4Address.{Ipv4Address}
use Rattle.pfr_net.specs.declared.direction.Direction.TheVariants.{In, Out}
use Rattle.pfr_net.specs.declared.interface.IfName.{IfName}
use Rattle.pfr_ruleset.specs.declared.flat.FlatTranslation.{FlatTranslation}
use Rattle.pfr_ruleset.specs.declared.flat.PacketMatch.{PacketMatch}
use Rattle.pfr_ruleset.specs.declared.table.Entry.{Entry}
use Rattle.pfr_headers.specs.declared.packet.Packet.{Packet}
use Rattle.pfr_criteria.specs.Hosts.{host_holds}
use Rattle.pfr_criteria.specs.Laws.{IsAnswer, IsBinat}
use Rattle.pfr_criteria.specs.Packets.{interface_holds, match_holds, protocol_holds}
use Rattle.pfr_criteria.specs.Translations.{asked_of, binat_holds, single, turned}
use Rattle.pfr_criteria.specs.Transports.{destination_port, icmp_holds, port_asked, source_port}

prefix_all : (a : ℕ) → prefix 32 a ≡ a
unfolding prefix
prefix_all a = omega arith

-- one address is just that address
single_holds : (tables : List (List Entry)) (address : Ipv4Address) (number : ℕ) → host_holds tables (single address) number ≡ (number == address.0)
unfolding host_holds
single_holds tables address number = rw (prefix_all number, prefix_all address.0) refl

same_is : (n : ℕ) → (n == n) ≡ true
same_is n = eq-eqb n n refl

-- the criteria of a packet that goes out
asked_out : (m : PacketMatch) (address : Ipv4Address) (name : IfName) (tables : List (List Entry)) (packet : Packet) → m.source ≡ single address → m.icmp ≡ None → match_holds m name tables packet ≡ (protocol_holds m.protocol packet.protocol.0 && (interface_holds m.interface name && (port_asked m.destination_port (destination_port packet.transport) && (port_asked m.source_port (source_port packet.transport) && (host_holds tables m.destination packet.destination.0 && (packet.source.0 == address.0))))))
unfolding match_holds icmp_holds
asked_out m address name tables packet source_is no_type = rw (source_is, no_type, single_holds tables address packet.source.0) refl

-- the criteria of its answer, which comes in
asked_in : (m : PacketMatch) (target : Ipv4Address) (name : IfName) (tables : List (List Entry)) (packet answer : Packet) → m.icmp ≡ None → IsAnswer packet target answer → match_holds (turned target m) name tables answer ≡ (protocol_holds m.protocol packet.protocol.0 && (interface_holds m.interface name && (port_asked m.source_port (source_port packet.transport) && (port_asked m.destination_port (destination_port packet.transport) && host_holds tables m.destination packet.destination.0))))
unfolding match_holds icmp_holds
asked_in m target name tables packet answer no_type is = rw (no_type, is.protocol, is.from, is.to, is.from_port, is.to_port, single_holds tables target target.0, same_is target.0) refl

-- the same parts in another order
turn : (p i d s h o : Bool) → (p && (i && (d && (s && (h && o))))) ≡ true → (o ≡ true) × ((p && (i && (s && (d && h)))) ≡ true)
turn true true true true true o is = (is, refl)
turn true true true true false o is = absurd (cc is)
turn true true true false h o is = absurd (cc is)
turn true true false s h o is = absurd (cc is)
turn true false d s h o is = absurd (cc is)
turn false i d s h o is = absurd (cc is)

turn_back : (p i d s h o : Bool) → o ≡ true → (p && (i && (s && (d && h)))) ≡ true → (p && (i && (d && (s && (h && o))))) ≡ true
turn_back true true true true h o is rest = rw (rest, is) refl
turn_back true true true false h o is rest = absurd (cc rest)
turn_back true true false true h o is rest = absurd (cc rest)
turn_back true true false false h o is rest = absurd (cc rest)
turn_back true false d s h o is rest = absurd (cc rest)
turn_back false i d s h o is rest = absurd (cc rest)

goes_back : (rule : FlatTranslation Ipv4Address) (address target : Ipv4Address) (name : IfName) (tables : List (List Entry)) (packet answer : Packet) → IsBinat rule address target → IsAnswer packet target answer → binat_holds rule name tables packet Out ≡ true → (packet.source ≡ address) × (binat_holds rule name tables answer In ≡ true)
goes_back rule address target name tables packet answer is answers holds =
    let parts = turn (protocol_holds rule.packet.protocol packet.protocol.0) (interface_holds rule.packet.interface name) (port_asked rule.packet.destination_port (destination_port packet.transport)) (port_asked rule.packet.source_port (source_port packet.transport)) (host_holds tables rule.packet.destination packet.destination.0) (packet.source.0 == address.0) (sym (asked_out rule.packet address name tables packet is.from is.no_type) ∙ holds) in
    let same = eqb-true packet.source.0 address.0 parts.0 in
    let came : match_holds (turned target rule.packet) name tables answer ≡ true = asked_in rule.packet target name tables packet answer is.no_type answers ∙ parts.1 in
    (ap (λ (n : ℕ). record { 0 = n }) same, subst (λ (to : Option Ipv4Address). match_holds (asked_of In to rule.packet) name tables answer ≡ true) (sym is.to) came)

came_out : (rule : FlatTranslation Ipv4Address) (address target : Ipv4Address) (name : IfName) (tables : List (List Entry)) (packet answer : Packet) → IsBinat rule address target → IsAnswer packet target answer → (packet.source ≡ address) × (binat_holds rule name tables answer In ≡ true) → binat_holds rule name tables packet Out ≡ true
came_out rule address target name tables packet answer is answers given =
    let same : (packet.source.0 == address.0) ≡ true = eq-eqb packet.source.0 address.0 (ap (λ (a : Ipv4Address). a.0) given.0) in
    let came : match_holds (turned target rule.packet) name tables answer ≡ true = subst (λ (to : Option Ipv4Address). match_holds (asked_of In to rule.packet) name tables answer ≡ true) is.to given.1 in
    asked_out rule.packet address name tables packet is.from is.no_type ∙ turn_back (protocol_holds rule.packet.protocol packet.protocol.0) (interface_holds rule.packet.interface name) (port_asked rule.packet.destination_port (destination_port packet.transport)) (port_asked rule.packet.source_port (source_port packet.transport)) (host_holds tables rule.packet.destination packet.destination.0) (packet.source.0 == address.0) same (sym (asked_in rule.packet target name tables packet answer is.no_type answers) ∙ came)

pub both_ways : (rule : FlatTranslation Ipv4Address) (address target : Ipv4Address) (name : IfName) (tables : List (List Entry)) (packet answer : Packet) → IsBinat rule address target → IsAnswer packet target answer → (binat_holds rule name tables packet Out ≡ true) ↔ ((packet.source ≡ address) × (binat_holds rule name tables answer In ≡ true))
both_ways rule address target name tables packet answer is answers = (goes_back rule address target name tables packet answer is answers, came_out rule address target name tables packet answer is answers)
