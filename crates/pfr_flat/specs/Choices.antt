-- Combinations: a choice from each list, the lists in the order in which pf.conf(5) expands them.
use Rattle.std.specs.Prelude.{false, List, map, flat_map, None}
use Rattle.pfr_ruleset.specs.declared.hosts.HostCriterion.{HostCriterion}
use Rattle.pfr_ruleset.specs.declared.hosts.HostSet.TheVariants.{Any}
use Rattle.pfr_ruleset.specs.declared.flat.PacketMatch.{PacketMatch}
use Rattle.pfr_flat.specs.declared.choices.Choices as C

-- any address
abbrev pub anyone : HostCriterion
anyone = record { is_negated = false; hosts = Any }

abbrev pub no_match : PacketMatch
no_match = record { interface = None; protocol = None; icmp = None; source = anyone; source_port = None; destination = anyone; destination_port = None }

abbrev pub by_destination_port : C.Choices → PacketMatch → List PacketMatch
by_destination_port c m = map (λ x. record m { destination_port = x }) c.destination_ports

abbrev pub by_destination : C.Choices → PacketMatch → List PacketMatch
by_destination c m = flat_map (λ x. by_destination_port c (record m { destination = x })) c.destinations

abbrev pub by_source_port : C.Choices → PacketMatch → List PacketMatch
by_source_port c m = flat_map (λ x. by_destination c (record m { source_port = x })) c.source_ports

abbrev pub by_source : C.Choices → PacketMatch → List PacketMatch
by_source c m = flat_map (λ x. by_source_port c (record m { source = x })) c.sources

abbrev pub by_icmp : C.Choices → PacketMatch → List PacketMatch
by_icmp c m = flat_map (λ x. by_source c (record m { icmp = x })) c.icmp_types

abbrev pub by_protocol : C.Choices → PacketMatch → List PacketMatch
by_protocol c m = flat_map (λ x. by_icmp c (record m { protocol = x })) c.protocols

abbrev pub by_interface : C.Choices → PacketMatch → List PacketMatch
by_interface c m = flat_map (λ x. by_protocol c (record m { interface = x })) c.interfaces

-- one for each choice of an interface, a protocol, an ICMP type, a source, its port, a destination and its port; the
-- last of them changes first
unfoldable pub combinations : C.Choices → List PacketMatch
combinations c = by_interface c no_match
