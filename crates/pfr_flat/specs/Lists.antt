-- What the lists of a rule or an anchor come to.
use Rattle.std.specs.Prelude.{ℕ, ◌*◌, ◌||◌, Bool, nat_lt, List, [], ◌∷◌, map, Option, Some, None, Result, Ok, Err}
use Rattle.pfr_net.specs.declared.protocol.Protocol.{Protocol}
use Rattle.pfr_net.specs.declared.icmp_match.IcmpMatch.{IcmpMatch}
use Rattle.pfr_net.specs.declared.port_match.PortMatch.{PortMatch}
use Rattle.pfr_ruleset.specs.declared.hosts.HostCriterion.{HostCriterion}
use Rattle.pfr_ruleset.specs.declared.interface.InterfaceCriterion.{InterfaceCriterion}
use Rattle.pfr_terms.specs.declared.error.ConfError.{ConfError}
use Rattle.pfr_terms.specs.declared.address.AddressMatch.{AddressMatch}
use Rattle.pfr_terms.specs.declared.interface.InterfaceMatch.{InterfaceMatch}
use Rattle.pfr_terms.specs.declared.name.Written.{Written}
use Rattle.pfr_terms.specs.declared.hosts.Part.{Part}
use Rattle.pfr_terms.specs.declared.hosts.Criteria.{Criteria}
use Rattle.pfr_elements.specs.declared.element.Elements as E
use Rattle.pfr_elements.specs.declared.scope.Scope.{Scope}
use Rattle.pfr_elements.specs.Elements.{elements_of, most_elements}
use Rattle.pfr_elements.specs.Hosts.{host_kind}
use Rattle.pfr_elements.specs.Terms.{interface_kind, protocol_kind, icmp_kind, port_kind}
use Rattle.pfr_flat.specs.declared.lists.Lists as L
use Rattle.pfr_flat.specs.declared.choices.Choices as C
use Rattle.pfr_flat.specs.Choices.{anyone}

-- ---- the elements of each list

abbrev pub if_written : {A B : Type 0} → (List A → E.Elements B) → Option (List A) → Option (E.Elements B)
if_written elements None = None
if_written elements (Some list) = Some (elements list)

abbrev pub interfaces : Scope → Bool → List InterfaceMatch → E.Elements InterfaceCriterion
interfaces scope keeps list = elements_of interface_kind scope keeps list

abbrev pub protocols : Scope → Bool → List (Written Protocol) → E.Elements Protocol
protocols scope keeps list = elements_of protocol_kind scope keeps list

abbrev pub icmp_types : Scope → Bool → List (Written IcmpMatch) → E.Elements IcmpMatch
icmp_types scope keeps list = elements_of icmp_kind scope keeps list

abbrev pub port_list : Scope → Bool → List (Written PortMatch) → E.Elements PortMatch
port_list scope keeps list = elements_of port_kind scope keeps list

abbrev pub host_list : Scope → Bool → List AddressMatch → E.Elements HostCriterion
host_list scope keeps list = elements_of host_kind scope keeps list

abbrev pub addresses_in : Option Part → Option (List AddressMatch)
addresses_in None = None
addresses_in (Some part) = part.addresses

abbrev pub ports_in : Option Part → Option (List (Written PortMatch))
ports_in None = None
ports_in (Some part) = part.ports

-- the lists of criteria, given what the addresses of the source come to; if nothing is made of them, what macros stand
-- for is only counted
unfoldable pub lists_with : Scope → Bool → Criteria → Option (List (Written IcmpMatch)) → Option (E.Elements HostCriterion) → L.Lists
lists_with scope keeps criteria types sources = record {
  interfaces = if_written (interfaces scope keeps) criteria.interfaces;
  protocols = if_written (protocols scope keeps) criteria.protocols;
  sources = sources;
  source_ports = if_written (port_list scope keeps) (ports_in criteria.hosts.source);
  destinations = if_written (host_list scope keeps) (addresses_in criteria.hosts.destination);
  destination_ports = if_written (port_list scope keeps) (ports_in criteria.hosts.destination);
  icmp_types = if_written (icmp_types scope keeps) types;
}

abbrev pub lists_of : Scope → Bool → Criteria → Option (List (Written IcmpMatch)) → L.Lists
lists_of scope keeps criteria types = lists_with scope keeps criteria types (if_written (host_list scope keeps) (addresses_in criteria.hosts.source))

-- ---- how many rules they make

-- what isn't written is one choice
abbrev pub count_of : {A : Type 0} → Option (E.Elements A) → ℕ
count_of None = 1
count_of (Some list) = list.count

unfoldable pub product : L.Lists → ℕ
product l = count_of l.interfaces * count_of l.protocols * count_of l.icmp_types * count_of l.sources * count_of l.source_ports * count_of l.destinations * count_of l.destination_ports

abbrev pub is_long : {A : Type 0} → Option (E.Elements A) → Bool
is_long list = nat_lt most_elements (count_of list)

-- whether one of them has more elements than a list may have
unfoldable pub has_long_list : L.Lists → Bool
has_long_list l = is_long l.interfaces || is_long l.protocols || is_long l.icmp_types || is_long l.sources || is_long l.source_ports || is_long l.destinations || is_long l.destination_ports

-- ---- what may be chosen

abbrev pub items_of : {A : Type 0} → Option (E.Elements A) → Option (List A)
items_of None = None
items_of (Some list) = Some list.items

abbrev pub or_fault : {A : Type 0} → Option ConfError → Option (E.Elements A) → Option ConfError
or_fault (Some e) list = Some e
or_fault None None = None
or_fault None (Some list) = list.fault

-- the first fault in the order of the text
abbrev pub fault_of : L.Lists → Option ConfError
fault_of l = or_fault (or_fault (or_fault (or_fault (or_fault (or_fault (or_fault None l.interfaces) l.protocols) l.sources) l.source_ports) l.destinations) l.destination_ports) l.icmp_types

abbrev pub choices_of : {A : Type 0} → Option (List A) → List (Option A)
choices_of None = None ∷ []
choices_of (Some items) = map Some items

abbrev pub hosts_of : Option (List HostCriterion) → List HostCriterion
hosts_of None = anyone ∷ []
hosts_of (Some items) = items

abbrev pub choices : L.Lists → C.Choices
choices l = record {
  interfaces = choices_of (items_of l.interfaces);
  protocols = choices_of (items_of l.protocols);
  icmp_types = choices_of (items_of l.icmp_types);
  sources = hosts_of (items_of l.sources);
  source_ports = choices_of (items_of l.source_ports);
  destinations = hosts_of (items_of l.destinations);
  destination_ports = choices_of (items_of l.destination_ports);
}

-- nothing may be chosen yet
abbrev pub no_choices : C.Choices
no_choices = record { interfaces = []; protocols = []; icmp_types = []; sources = []; source_ports = []; destinations = []; destination_ports = [] }

abbrev pub or_choices : C.Choices → Option ConfError → Result C.Choices ConfError
or_choices c None = Ok c
or_choices c (Some e) = Err e

unfoldable pub choices_or_fault : L.Lists → Result C.Choices ConfError
choices_or_fault l = or_choices (choices l) (fault_of l)
