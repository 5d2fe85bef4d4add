-- How many combinations there are, and the place of each.
use Rattle.std.proofs.Common.{◌≡◌, ◌∙◌, ◌*◌, ℕ, List, [], ◌∷◌, length, flat_map, arith}
use Rattle.std.proofs.lemmas.List.{length-append, length-map}
use Rattle.pfr_ruleset.specs.declared.flat.PacketMatch.{PacketMatch}
use Rattle.pfr_flat.specs.declared.choices.Choices as C
use Rattle.pfr_flat.specs.Choices.{no_match, by_destination_port, by_destination, by_source_port, by_source, by_icmp, by_protocol, by_interface, combinations}

-- as many for each element
pub length_each : {X A : Type 0} (n : ℕ) (f : X → List A) → ((x : X) → length (f x) ≡ n) → (xs : List X) → length (flat_map f xs) ≡ length xs * n
length_each n f each [] = omega arith
length_each n f each (x ∷ xs) =
    let behind : length (flat_map f xs) ≡ length xs * n = length_each n f each xs in
    omega (arith, length-append (f x) (flat_map f xs), each x, behind)

pub destination_port_count : (c : C.Choices) (m : PacketMatch) → length (by_destination_port c m) ≡ length c.destination_ports
destination_port_count c m = length-map c.destination_ports (λ x. record m { destination_port = x })

pub destination_count : (c : C.Choices) (m : PacketMatch) → length (by_destination c m) ≡ length c.destinations * length c.destination_ports
destination_count c m = length_each _ (λ x. by_destination_port c (record m { destination = x })) (λ x. destination_port_count c (record m { destination = x })) c.destinations

pub source_port_count : (c : C.Choices) (m : PacketMatch) → length (by_source_port c m) ≡ length c.source_ports * (length c.destinations * length c.destination_ports)
source_port_count c m = length_each _ (λ x. by_destination c (record m { source_port = x })) (λ x. destination_count c (record m { source_port = x })) c.source_ports

pub source_count : (c : C.Choices) (m : PacketMatch) → length (by_source c m) ≡ length c.sources * (length c.source_ports * (length c.destinations * length c.destination_ports))
source_count c m = length_each _ (λ x. by_source_port c (record m { source = x })) (λ x. source_port_count c (record m { source = x })) c.sources

pub icmp_count : (c : C.Choices) (m : PacketMatch) → length (by_icmp c m) ≡ length c.icmp_types * (length c.sources * (length c.source_ports * (length c.destinations * length c.destination_ports)))
icmp_count c m = length_each _ (λ x. by_source c (record m { icmp = x })) (λ x. source_count c (record m { icmp = x })) c.icmp_types

pub protocol_count : (c : C.Choices) (m : PacketMatch) → length (by_protocol c m) ≡ length c.protocols * (length c.icmp_types * (length c.sources * (length c.source_ports * (length c.destinations * length c.destination_ports))))
protocol_count c m = length_each _ (λ x. by_icmp c (record m { protocol = x })) (λ x. icmp_count c (record m { protocol = x })) c.protocols

interface_count : (c : C.Choices) (m : PacketMatch) → length (by_interface c m) ≡ length c.interfaces * (length c.protocols * (length c.icmp_types * (length c.sources * (length c.source_ports * (length c.destinations * length c.destination_ports)))))
interface_count c m = length_each _ (λ x. by_protocol c (record m { interface = x })) (λ x. protocol_count c (record m { interface = x })) c.interfaces

regrouped : (a b c d e f g : ℕ) → a * (b * (c * (d * (e * (f * g))))) ≡ a * b * c * d * e * f * g
regrouped a b c d e f g = omega arith

pub combination_count : (c : C.Choices) → length (combinations c) ≡ length c.interfaces * length c.protocols * length c.icmp_types * length c.sources * length c.source_ports * length c.destinations * length c.destination_ports
unfolding combinations
combination_count c = interface_count c no_match ∙ regrouped (length c.interfaces) (length c.protocols) (length c.icmp_types) (length c.sources) (length c.source_ports) (length c.destinations) (length c.destination_ports)
