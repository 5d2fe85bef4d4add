-- The interfaces of a run, by their places, and the table of their addresses (pf.conf(5), "self").
use Rattle.std.specs.Prelude.{Bool, false, if◌then◌else◌, List, [], fold, Option, Some, None}
use Rattle.std.specs.List.{slice_get}
use Rattle.pfr_net.specs.declared.interface.IfName.{IfName}
use Rattle.pfr_net.specs.declared.interface.InterfacePlace.{InterfacePlace}
use Rattle.pfr_net.specs.Interfaces.{if_name}
use Rattle.pfr_ruleset.specs.declared.hosts.HostSet.{HostSet}
use Rattle.pfr_ruleset.specs.declared.hosts.HostSet.TheVariants as set
use Rattle.pfr_ruleset.specs.declared.interface.Interface.{Interface}
use Rattle.pfr_ruleset.specs.declared.table.Entry.{Entry}
use Rattle.pfr_ruleset.specs.Tables.{clashes, with_entry}

-- ---- names

abbrev pub name_or_none : Option Interface → IfName
name_or_none None = if_name []
name_or_none (Some interface) = interface.name

-- the name of the interface at a place; behind the last one the name without letters
abbrev pub name_at : List Interface → InterfacePlace → IfName
name_at interfaces place = name_or_none (slice_get interfaces place.0)

-- ---- addresses

-- an interface's address alone
abbrev pub own_entry : Bool → Interface → Entry
own_entry is_negated interface = record { network = record { address = interface.address; bits = 32 }; is_negated = is_negated }

abbrev pub with_own : List Entry → Interface → List Entry
with_own table interface = if clashes table (own_entry false interface) then table else with_entry table (own_entry false interface)

-- the addresses of interfaces as a table; none of its entries has a `!`, so that none clashes
abbrev pub own_table : List Interface → List Entry
own_table interfaces = fold with_own [] interfaces

-- the addresses of a run's interfaces are those of the first table of its ruleset
abbrev pub own_addresses : HostSet
own_addresses = set.Table 0
