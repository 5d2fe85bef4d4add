-- What the laws say.
use Rattle.std.specs.Prelude.{◌≡◌, ◌↔◌, ◌≤◌, ◌<◌, ◌==◌, List, ◌∷◌, ℕ, true, false, map, None, Some}
use Rattle.std.specs.List.{Contains, list_any, slice_get}
use Rattle.pfr_net.specs.declared.address.Ipv4Address.{Ipv4Address}
use Rattle.pfr_net.specs.declared.direction.Direction.{Direction}
use Rattle.pfr_net.specs.declared.direction.Direction.TheVariants.{In, Out}
use Rattle.pfr_net.specs.declared.interface.IfName.{IfName}
use Rattle.pfr_ruleset.specs.Criteria.{asked_by, asked_by_translation, IsSkip}
use Rattle.pfr_ruleset.specs.Interfaces.{own_addresses, own_table}
use Rattle.pfr_ruleset.specs.Shapes.{covers, pins_of, shape_at, shape_place, key, key_of_rule}
use Rattle.pfr_ruleset.specs.declared.criterion.Asked.{Asked}
use Rattle.pfr_ruleset.specs.declared.criterion.Criterion.{Criterion}
use Rattle.pfr_ruleset.specs.declared.flat.FlatRule.{FlatRule}
use Rattle.pfr_ruleset.specs.declared.flat.FlatTranslation.{FlatTranslation}
use Rattle.pfr_ruleset.specs.declared.flat.PacketMatch.{PacketMatch}
use Rattle.pfr_ruleset.specs.declared.interface.Interface.{Interface}
use Rattle.pfr_ruleset.specs.declared.shape.Shape.{Shape}
use Rattle.pfr_ruleset.specs.declared.table.Entry.{Entry}
use Rattle.pfr_headers.specs.declared.packet.Packet.{Packet}
use Rattle.pfr_criteria.specs.Asking.{part_holds}
use Rattle.pfr_criteria.specs.Hosts.{among, has}
use Rattle.pfr_criteria.specs.Packets.{match_holds, rule_holds}
use Rattle.pfr_criteria.specs.Pins.{pins_in}
use Rattle.pfr_criteria.specs.Translations.{binat_holds, single, translation_holds}
use Rattle.pfr_criteria.specs.Transports.{destination_port, source_port}

-- two tables with the same entries hold the same addresses
abbrev pub TablesHoldByTheirEntries : Type 0
TablesHoldByTheirEntries =
    (entries others : List Entry)
    → ((e : Entry) → Contains entries e → Contains others e)
    → ((e : Entry) → Contains others e → Contains entries e)
    → (address : ℕ)
    → has entries address ≡ has others address

-- if the first table has the interfaces' addresses, `self` of several interfaces holds exactly these
abbrev pub OwnAddressesAreHeld : Type 0
OwnAddressesAreHeld =
    (interfaces : List Interface) (rest : List (List Entry)) (address : ℕ)
    → among (own_table interfaces ∷ rest) own_addresses address ≡ list_any (λ interface. interface.address.0 == address) interfaces

-- if a filter rule fails at a criterion, each rule before its skip fails there
abbrev pub RulesFailUpToSkips : Type 0
RulesFailUpToSkips =
    (criterion : Criterion) (rules : List FlatRule) (place next : ℕ) (rule : FlatRule) (name : IfName) (tables : List (List Entry)) (packet : Packet) (direction : Direction)
    → IsSkip criterion (map asked_by rules) place next
    → slice_get rules place ≡ Some rule
    → part_holds criterion (asked_by rule) name tables packet direction ≡ false
    → (q : ℕ) (other : FlatRule) → place ≤ q → q < next → slice_get rules q ≡ Some other → rule_holds other name tables packet direction ≡ false

-- the same of translation rules; the packet's direction doesn't matter to them
abbrev pub TranslationsFailUpToSkips : Type 0 → Type 0
TranslationsFailUpToSkips T =
    (criterion : Criterion) (rules : List (FlatTranslation T)) (place next : ℕ) (rule : FlatTranslation T) (name : IfName) (tables : List (List Entry)) (packet : Packet) (direction : Direction)
    → IsSkip criterion (map asked_by_translation rules) place next
    → slice_get rules place ≡ Some rule
    → part_holds criterion (asked_by_translation rule) name tables packet direction ≡ false
    → (q : ℕ) (other : FlatTranslation T) → place ≤ q → q < next → slice_get rules q ≡ Some other → translation_holds other name tables packet ≡ false

-- a packet for which a rule holds has what the rule pins
abbrev pub PinsAgree : Type 0
PinsAgree =
    (shape : Shape) (asked : PacketMatch) (name : IfName) (tables : List (List Entry)) (packet : Packet)
    → covers shape asked ≡ true
    → match_holds asked name tables packet ≡ true
    → pins_of shape asked ≡ pins_in shape packet

-- if a rule holds, its key is the key of the packet's values, by the shape to which the rule belongs
abbrev pub KeysAgree : Type 0
KeysAgree =
    (shapes : List Shape) (size : ℕ) (asked : Asked) (name : IfName) (tables : List (List Entry)) (packet : Packet)
    → match_holds asked.packet name tables packet ≡ true
    → (let place = shape_place shapes asked.packet in key_of_rule shapes size asked ≡ key place (pins_in (shape_at shapes place) packet) size)

-- ---- binat

-- a packet that answers another one, which was sent on with this source
pub record IsAnswer (packet : Packet) (source : Ipv4Address) (answer : Packet) : Type 0 where
  pub protocol : answer.protocol ≡ packet.protocol
  pub from : answer.source ≡ packet.destination
  pub to : answer.destination ≡ source
  pub from_port : source_port answer.transport ≡ destination_port packet.transport
  pub to_port : destination_port answer.transport ≡ source_port packet.transport

-- a `binat` rule from one address to another one, as a text may write it
pub record IsBinat (rule : FlatTranslation Ipv4Address) (address target : Ipv4Address) : Type 0 where
  pub from : rule.packet.source ≡ single address
  pub to : rule.target ≡ Some target
  pub no_type : rule.packet.icmp ≡ None

-- it holds for a packet that goes out exactly if the packet comes from the address and the rule holds for the answer to
-- the target
abbrev pub BinatHoldsBothWays : Type 0
BinatHoldsBothWays =
    (rule : FlatTranslation Ipv4Address) (address target : Ipv4Address) (name : IfName) (tables : List (List Entry)) (packet answer : Packet)
    → IsBinat rule address target
    → IsAnswer packet target answer
    → (binat_holds rule name tables packet Out ≡ true) ↔ ((packet.source ≡ address) × (binat_holds rule name tables answer In ≡ true))
