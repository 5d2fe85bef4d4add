-- Forms of interfaces, as pf.conf(5) has them.
use Rattle.std.specs.Prelude.{ℕ, ◌-◌, ◌&&◌, ◌||◌, Bool, nat_le, if◌then◌else◌, List, [], ◌∷◌, length, take, drop, codes, Option, Some, None}
use Rattle.std.specs.Str.{bytes_eq}
use Rattle.pfr_net.specs.declared.address.Ipv4Address.{Ipv4Address}
use Rattle.pfr_net.specs.declared.network.Net.{Net}
use Rattle.pfr_net.specs.Networks.{prefix}
use Rattle.pfr_net.specs.Interfaces.{if_name}
use Rattle.pfr_ruleset.specs.declared.hosts.HostSet.{HostSet}
use Rattle.pfr_ruleset.specs.declared.hosts.HostSet.TheVariants as set
use Rattle.pfr_ruleset.specs.declared.interface.Interface.{Interface}
use Rattle.pfr_ruleset.specs.Interfaces.{own_addresses}

-- one address
abbrev pub whole : Ipv4Address → Net
whole address = record { address = address; bits = 32 }

-- a network without the bits below its prefix
abbrev pub masked : Net → Net
masked network = record { address = record { 0 = prefix network.bits network.address.0 }; bits = network.bits }

abbrev pub is_named : Interface → List ℕ → Bool
is_named interface word = nat_le (length word) 15 && bytes_eq (if_name word).bytes interface.name.bytes

-- whether a word is the interface's name with this end behind it
unfoldable pub is_named_with : Interface → List ℕ → List ℕ → Bool
is_named_with interface end word =
    nat_le (length end) (length word)
    && bytes_eq (drop (length word - length end) word) end
    && is_named interface (take (length word - length end) word)

-- NAME and NAME:0 are the interface's address, NAME:network its network; no other word is a form of it
unfoldable pub form_of : Interface → List ℕ → Option Net
form_of interface word =
    if is_named interface word || is_named_with interface (codes ":0") word then Some (whole interface.address)
    else if is_named_with interface (codes ":network") word then Some (masked (record { address = interface.address; bits = interface.bits }))
    else None

abbrev pub form_or : Option Net → Option Net → Option Net
form_or (Some network) later = Some network
form_or None later = later

-- a word that is a form of several interfaces is that of the first
abbrev pub first_form : List Interface → List ℕ → Option Net
first_form [] word = None
first_form (interface ∷ interfaces) word = form_or (form_of interface word) (first_form interfaces word)

-- `self` is the address of the one interface, or the addresses of several
abbrev pub own_hosts : List Interface → HostSet
own_hosts (interface ∷ []) = set.Network (whole interface.address)
own_hosts interfaces = own_addresses
