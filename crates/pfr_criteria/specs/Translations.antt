-- When a translation rule holds for a packet (pf.conf(5), "Translation").
use Rattle.std.specs.Prelude.{Bool, false, List, Option, Some, None}
use Rattle.pfr_net.specs.declared.address.Ipv4Address.{Ipv4Address}
use Rattle.pfr_net.specs.declared.direction.Direction.{Direction}
use Rattle.pfr_net.specs.declared.direction.Direction.TheVariants.{In, Out}
use Rattle.pfr_ruleset.specs.declared.table.Entry.{Entry}
use Rattle.pfr_net.specs.declared.interface.IfName.{IfName}
use Rattle.pfr_ruleset.specs.declared.hosts.HostCriterion.{HostCriterion}
use Rattle.pfr_ruleset.specs.declared.hosts.HostSet.TheVariants as set
use Rattle.pfr_ruleset.specs.declared.flat.PacketMatch.{PacketMatch}
use Rattle.pfr_ruleset.specs.declared.flat.FlatTranslation.{FlatTranslation}
use Rattle.pfr_headers.specs.declared.packet.Packet.{Packet}
use Rattle.pfr_criteria.specs.Packets.{match_holds}

-- a packet must meet all that a `nat` or `rdr` rule writes, as the packet is, behind `no` too
abbrev pub translation_holds : {T : Type 0} → FlatTranslation T → IfName → List (List Entry) → Packet → Bool
translation_holds rule name tables packet = match_holds rule.packet name tables packet

-- ---- binat, which translates both ways

abbrev pub single : Ipv4Address → HostCriterion
single address = record { is_negated = false; hosts = set.Network (record { address = address; bits = 32 }) }

-- A packet that comes in must go to the address that the rule translates to. Its source is tested by the rule's `to`,
-- and its destination port by a port at the rule's `from`.
abbrev pub turned : Ipv4Address → PacketMatch → PacketMatch
turned target asked =
    record asked { source = asked.destination; source_port = asked.destination_port; destination = single target; destination_port = asked.source_port }

-- the criteria that a packet of a direction must meet; those of a `no` rule are the same for both directions
abbrev pub asked_of : Direction → Option Ipv4Address → PacketMatch → PacketMatch
asked_of In (Some target) asked = turned target asked
asked_of In None asked = asked
asked_of Out target asked = asked

abbrev pub binat_holds : FlatTranslation Ipv4Address → IfName → List (List Entry) → Packet → Direction → Bool
binat_holds rule name tables packet direction = match_holds (asked_of direction rule.target rule.packet) name tables packet
