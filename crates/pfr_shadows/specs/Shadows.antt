-- Rules that hold wherever others do, and rules that never decide for that.
use Rattle.std.specs.Prelude.{◌≡◌, ◌≢◌, ℕ, Bool, true, false, not, ◌&&◌, ◌||◌, nat_lt, nat_le, List, Option, Some, None, is_none}
use Rattle.std.specs.List.{list_all, slice_get}
use Rattle.pfr_net.specs.declared.address.Ipv4Address.{Ipv4Address}
use Rattle.pfr_net.specs.declared.direction.Direction.{Direction}
use Rattle.pfr_net.specs.declared.interface.IfName.{IfName}
use Rattle.pfr_net.specs.declared.network.Net.{Net}
use Rattle.pfr_net.specs.declared.protocol.Protocol.{Protocol}
use Rattle.pfr_net.specs.Networks as networks
use Rattle.pfr_ruleset.specs.declared.flat.FlagsCriterion.{FlagsCriterion}
use Rattle.pfr_ruleset.specs.declared.flat.FlatAnchor.{FlatAnchor}
use Rattle.pfr_ruleset.specs.declared.flat.FlatRule.{FlatRule}
use Rattle.pfr_ruleset.specs.declared.flat.PacketMatch.{PacketMatch}
use Rattle.pfr_ruleset.specs.declared.flat.StateRule.{StateRule}
use Rattle.pfr_ruleset.specs.declared.hosts.HostCriterion.{HostCriterion}
use Rattle.pfr_ruleset.specs.declared.hosts.HostSet.TheVariants.{Any, Network}
use Rattle.pfr_net.specs.declared.icmp_match.IcmpMatch.{IcmpMatch}
use Rattle.pfr_ruleset.specs.declared.interface.InterfaceCriterion.{InterfaceCriterion}
use Rattle.pfr_net.specs.declared.port_match.Comparison.TheVariants.{Equal}
use Rattle.pfr_net.specs.declared.port_match.PortMatch.{PortMatch}
use Rattle.pfr_net.specs.declared.port_match.PortMatch.TheVariants.{Compare}
use Rattle.pfr_ruleset.specs.declared.ruleset.Ruleset.{Ruleset}
use Rattle.pfr_ruleset.specs.declared.table.Entry.{Entry}
use Rattle.pfr_headers.specs.declared.packet.Packet.{Packet}
use Rattle.pfr_headers.specs.declared.transport.Transport.{Transport}
use Rattle.pfr_criteria.specs.Hosts.{host_holds}
use Rattle.pfr_criteria.specs.Packets.{direction_holds, interface_holds, match_holds, protocol_holds, rule_holds}
use Rattle.pfr_criteria.specs.Transports.{flags_hold, icmp_holds, port_asked, port_holds}
use Rattle.pfr_rules.specs.Filter.{Rooms, deciding}

-- ---- one criterion holds wherever another one does

abbrev pub DirectionCovers : (wide narrow : Option Direction) → Type 0
DirectionCovers wide narrow = (direction : Direction) → direction_holds narrow direction ≡ true → direction_holds wide direction ≡ true

abbrev pub InterfaceCovers : (wide narrow : Option InterfaceCriterion) → Type 0
InterfaceCovers wide narrow = (name : IfName) → interface_holds narrow name ≡ true → interface_holds wide name ≡ true

abbrev pub ProtocolCovers : (wide narrow : Option Protocol) → Type 0
ProtocolCovers wide narrow = (number : ℕ) → protocol_holds narrow number ≡ true → protocol_holds wide number ≡ true

abbrev pub IcmpCovers : (wide narrow : Option IcmpMatch) → Type 0
IcmpCovers wide narrow = (transport : Transport) → icmp_holds narrow transport ≡ true → icmp_holds wide transport ≡ true

-- one port
abbrev pub one_port : ℕ → PortMatch
one_port port = Compare Equal port

abbrev pub PortCovers : (wide narrow : PortMatch) → Type 0
PortCovers wide narrow = (number : ℕ) → port_holds narrow number ≡ true → port_holds wide number ≡ true

abbrev pub PortsCover : (wide narrow : Option PortMatch) → Type 0
PortsCover wide narrow = (number : Option ℕ) → port_asked narrow number ≡ true → port_asked wide number ≡ true

abbrev pub FlagsCover : (wide narrow : FlagsCriterion) → Type 0
FlagsCover wide narrow = (transport : Transport) → flags_hold narrow transport ≡ true → flags_hold wide transport ≡ true

abbrev pub IsAny : HostCriterion → Type 0
IsAny criterion = criterion ≡ record { is_negated = false; hosts = Any }

-- the addresses of a network
abbrev pub network : Net → HostCriterion
network net = record { is_negated = false; hosts = Network net }

abbrev pub NetCovers : (wide narrow : Net) → Type 0
NetCovers wide narrow = (address : Ipv4Address) → networks.holds narrow address ≡ true → networks.holds wide address ≡ true

-- a criterion holds all addresses of a network
abbrev pub HoldsAllOf : List (List Entry) → HostCriterion → Net → Type 0
HoldsAllOf tables wide narrow = (address : ℕ) → networks.holds narrow (record { 0 = address }) ≡ true → host_holds tables wide address ≡ true

abbrev pub HostCovers : List (List Entry) → (wide narrow : HostCriterion) → Type 0
HostCovers tables wide narrow = (address : ℕ) → host_holds tables narrow address ≡ true → host_holds tables wide address ≡ true

-- ---- one rule holds wherever another one does

abbrev pub MatchCovers : List (List Entry) → (wide narrow : PacketMatch) → Type 0
MatchCovers tables wide narrow =
    (name : IfName) (packet : Packet) → match_holds narrow name tables packet ≡ true → match_holds wide name tables packet ≡ true

abbrev pub Covers : List (List Entry) → (wide narrow : FlatRule) → Type 0
Covers tables wide narrow =
    (name : IfName) (packet : Packet) (direction : Direction)
    → rule_holds narrow name tables packet direction ≡ true → rule_holds wide name tables packet direction ≡ true

-- ---- rules that never decide

abbrev pub state_has_room : Option StateRule → Bool
state_has_room None = true
state_has_room (Some state) = is_none state.most

-- the states that a rule keeps aren't limited, so it has room whenever it holds
abbrev pub has_room : FlatRule → Bool
has_room rule = state_has_room rule.state

abbrev pub is_round : FlatAnchor → ℕ → Bool
is_round anchor place = nat_le anchor.first place && nat_le place anchor.last

-- each anchor round the first place is round the second too
abbrev pub is_open_to : List FlatAnchor → (first second : ℕ) → Bool
is_open_to anchors first second = list_all (λ anchor. not (is_round anchor first) || is_round anchor second) anchors

-- each quick anchor round the first place is round the second too
abbrev pub goes_on_to : List FlatAnchor → (first second : ℕ) → Bool
goes_on_to anchors first second = list_all (λ anchor. not (anchor.is_quick && is_round anchor first) || is_round anchor second) anchors

-- If both rules hold, the second one decides nothing. Either the first one comes before it and is quick, or the second
-- one isn't quick and the first one is tested after it.
abbrev pub comes_to_decide : List FlatAnchor → (first second : ℕ) → (one other : FlatRule) → Bool
comes_to_decide anchors first second one other =
    (nat_lt first second && one.is_quick) || (nat_lt second first && (not other.is_quick && goes_on_to anchors second first))

-- The rule at place `rule` never decides, since the one at place `by` does: that one holds wherever it does and has
-- room, is tested wherever it is, and comes to decide.
pub record IsShadow (r : Ruleset) (rule by : ℕ) : Type 0 where
  pub narrow : FlatRule
  pub wide : FlatRule
  pub rule_is : slice_get r.filter.rules rule ≡ Some narrow
  pub by_is : slice_get r.filter.rules by ≡ Some wide
  pub is_asked : is_open_to r.filter.anchors by rule ≡ true
  pub decides : comes_to_decide r.filter.anchors by rule wide narrow ≡ true
  pub room : has_room wide ≡ true
  pub holds : Covers r.tables wide narrow

-- a shadowed rule decides on no packet, whichever rules with `max` have room
abbrev pub ShadowedDecideNone : Type 0
ShadowedDecideNone =
    (r : Ruleset) (rule by : ℕ) (rooms : Rooms) (name : IfName) (packet : Packet) (direction : Direction)
    → IsShadow r rule by
    → deciding r rooms name packet direction ≢ Some rule
