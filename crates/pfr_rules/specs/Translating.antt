-- Which translation rule translates a packet, to what, and which rules are visited on the way (pf.conf(5),
-- "Translation").
--
-- The rules of a kind are asked in the order in which they are written, up to the first one that holds. That one
-- translates the packet; with `no` it ends its kind. `binat` rules are asked first. If none of them translates the
-- packet, `rdr` rules are asked for a packet that comes in, and `nat` rules for one that goes out.
use Rattle.std.specs.Prelude.{ℕ, ◌+◌, ◌-◌, min, Bool, if◌then◌else◌, List, [], ◌∷◌, ◌++◌, Option, Some, None}
use Rattle.std.specs.List.{find}
use Rattle.std.specs.Option.{option_map}
use Rattle.pfr_net.specs.declared.address.Ipv4Address.{Ipv4Address}
use Rattle.pfr_net.specs.declared.direction.Direction.{Direction}
use Rattle.pfr_net.specs.declared.direction.Direction.TheVariants.{In, Out}
use Rattle.pfr_net.specs.declared.interface.IfName.{IfName}
use Rattle.pfr_net.specs.declared.port.Port.{Port}
use Rattle.pfr_ruleset.specs.declared.flat.FlatTranslation.{FlatTranslation}
use Rattle.pfr_ruleset.specs.declared.flat.NatAddress.{NatAddress}
use Rattle.pfr_ruleset.specs.declared.flat.PortChange.{PortChange}
use Rattle.pfr_ruleset.specs.declared.flat.PortChange.TheVariants as change
use Rattle.pfr_ruleset.specs.declared.flat.RdrAddress.{RdrAddress}
use Rattle.pfr_ruleset.specs.declared.hosts.HostSet.{HostSet}
use Rattle.pfr_ruleset.specs.declared.hosts.HostSet.TheVariants as set
use Rattle.pfr_net.specs.declared.port_match.PortMatch.{PortMatch}
use Rattle.pfr_net.specs.declared.port_match.PortMatch.TheVariants as port
use Rattle.pfr_ruleset.specs.declared.ruleset.Ruleset.{Ruleset}
use Rattle.pfr_headers.specs.declared.packet.Packet.{Packet}
use Rattle.pfr_criteria.specs.Translations as criteria
use Rattle.pfr_rules.specs.declared.hit.Hit.{Hit}
use Rattle.pfr_rules.specs.declared.hit.NewEnd.{NewEnd}
use Rattle.pfr_rules.specs.declared.hit.NewEnd.TheVariants.{Mapped, Picked}
use Rattle.pfr_rules.specs.declared.hit.PortMapping.{PortMapping}
use Rattle.pfr_rules.specs.declared.hit.PortMapping.TheVariants.{Kept, To, Shifted}

-- ---- ports

-- the first of the ports that a rule asks for
abbrev pub first_port : Option PortMatch → Port
first_port None = record { 0 = 0 }
first_port (Some (port.Compare comparison written)) = record { 0 = written }
first_port (Some (port.Range operator low high)) = record { 0 = low }

-- the mapping of ports by a rule that asks for these destination ports
abbrev pub mapping : Option PortMatch → PortChange → PortMapping
mapping ports change.Kept = Kept
mapping ports (change.To to) = To (record { 0 = to })
mapping ports (change.From to) = Shifted (first_port ports) (record { 0 = to })

-- ports that are moved by one distance don't get past 65535: rules with which they would are refused
abbrev pub mapped : PortMapping → Port → Port
mapped Kept from = from
mapped (To to) from = to
mapped (Shifted first to) from = record { 0 = min (to.0 + (from.0 - first.0)) 65535 }

-- ---- what a rule makes of a packet

-- a rule without a target translates nothing
abbrev pub hit_by : {T : Type 0} → (T → NewEnd) → FlatTranslation T → Option Hit
hit_by end rule = option_map (λ target. record { number = record { 0 = rule.number }; passes = rule.passes; new_end = end target }) rule.target

abbrev pub nat_hit : FlatTranslation NatAddress → Option Hit
nat_hit rule = hit_by Picked rule

abbrev pub rdr_hit : FlatTranslation RdrAddress → Option Hit
rdr_hit rule = hit_by (λ target. Mapped target.address (mapping rule.packet.destination_port target.port)) rule

-- the address at a `binat` rule's `from`, or `other` if several are written there, which a rule with a target never has
abbrev pub address_or : Ipv4Address → HostSet → Ipv4Address
address_or other (set.Network network) = network.address
address_or other hosts = other

-- a packet that goes out gets the target as its source, one that comes in the address at `from` as its destination
abbrev pub binat_end : Packet → Direction → FlatTranslation Ipv4Address → Ipv4Address → NewEnd
binat_end packet In rule target = Mapped (address_or packet.destination rule.packet.source.hosts) Kept
binat_end packet Out rule target = Mapped target Kept

abbrev pub binat_hit : Packet → Direction → FlatTranslation Ipv4Address → Option Hit
binat_hit packet direction rule = hit_by (binat_end packet direction rule) rule

-- ---- the rules of a kind

-- how rules of a kind are asked: whether one holds for a packet on the interface of a name, what it makes of it, and
-- its number
pub record Kind (R : Type 0) : Type 0 where
  pub holds : Ruleset → IfName → Packet → Direction → R → Bool
  pub hit : Packet → Direction → R → Option Hit
  pub number : R → ℕ

abbrev pub numbered : {T : Type 0} → FlatTranslation T → ℕ
numbered rule = rule.number

abbrev pub translation_holds : {T : Type 0} → Ruleset → IfName → Packet → Direction → FlatTranslation T → Bool
translation_holds flat name packet direction rule = criteria.translation_holds rule name flat.tables packet

abbrev pub binat_holds : Ruleset → IfName → Packet → Direction → FlatTranslation Ipv4Address → Bool
binat_holds flat name packet direction rule = criteria.binat_holds rule name flat.tables packet direction

abbrev pub nats : Kind (FlatTranslation NatAddress)
nats = record { holds = translation_holds; hit = λ packet direction. nat_hit; number = numbered }

abbrev pub rdrs : Kind (FlatTranslation RdrAddress)
rdrs = record { holds = translation_holds; hit = λ packet direction. rdr_hit; number = numbered }

abbrev pub binats : Kind (FlatTranslation Ipv4Address)
binats = record { holds = binat_holds; hit = binat_hit; number = numbered }

abbrev pub hit_of_first : {R : Type 0} → (R → Option Hit) → Option R → Option Hit
hit_of_first hit None = None
hit_of_first hit (Some rule) = hit rule

-- what the first rule that holds makes of a packet
abbrev pub hit_in : {R : Type 0} → Kind R → Ruleset → IfName → Packet → Direction → List R → Option Hit
hit_in kind flat name packet direction rules = hit_of_first (kind.hit packet direction) (find (kind.holds flat name packet direction) rules)

-- `of` each element up to the first one for which a test holds, or of all if it holds for none
abbrev pub up_to_first : {A B : Type 0} → (A → Bool) → (A → B) → List A → List B
up_to_first test of [] = []
up_to_first test of (x ∷ xs) = of x ∷ (if test x then [] else up_to_first test of xs)

-- the numbers of the rules that are asked for a packet
abbrev pub asked_in : {R : Type 0} → Kind R → Ruleset → IfName → Packet → Direction → List R → List ℕ
asked_in kind flat name packet direction rules = up_to_first (kind.holds flat name packet direction) kind.number rules

-- ---- a packet on the interface of a name

abbrev pub binat_of : Ruleset → IfName → Packet → Direction → Option Hit
binat_of flat name packet direction = hit_in binats flat name packet direction flat.translations.binats

-- by the kind that is asked after `binat`
abbrev pub other_hit : Ruleset → IfName → Packet → Direction → Option Hit
other_hit flat name packet In = hit_in rdrs flat name packet In flat.translations.rdrs
other_hit flat name packet Out = hit_in nats flat name packet Out flat.translations.nats

abbrev pub others_asked : Ruleset → IfName → Packet → Direction → List ℕ
others_asked flat name packet In = asked_in rdrs flat name packet In flat.translations.rdrs
others_asked flat name packet Out = asked_in nats flat name packet Out flat.translations.nats

abbrev pub hit_behind : Option Hit → Option Hit → Option Hit
hit_behind (Some hit) other = Some hit
hit_behind None other = other

abbrev pub asked_behind : Option Hit → List ℕ → List ℕ
asked_behind (Some hit) others = []
asked_behind None others = others

-- what the rule that translates the packet makes of it
unfoldable pub hit_of : Ruleset → IfName → Packet → Direction → Option Hit
hit_of flat name packet direction = hit_behind (binat_of flat name packet direction) (other_hit flat name packet direction)

-- the numbers of the rules that are visited, in the order in which they are asked
unfoldable pub translations_visited : Ruleset → IfName → Packet → Direction → List ℕ
translations_visited flat name packet direction =
    asked_in binats flat name packet direction flat.translations.binats
    ++ asked_behind (binat_of flat name packet direction) (others_asked flat name packet direction)
