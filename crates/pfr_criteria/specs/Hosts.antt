-- Which addresses a criterion holds (pf.conf(5), "Parameters", "Tables").
use Rattle.std.specs.Prelude.{ℕ, ◌&&◌, ◌||◌, Bool, true, false, not, nat_le, if◌then◌else◌, List, Option, Some, None}
use Rattle.std.specs.List.{slice_get, list_any, list_all}
use Rattle.pfr_net.specs.Networks as networks
use Rattle.pfr_ruleset.specs.declared.table.Entry.{Entry}
use Rattle.pfr_ruleset.specs.Tables.{bits_of, holds}
use Rattle.pfr_ruleset.specs.declared.hosts.HostSet.{HostSet}
use Rattle.pfr_ruleset.specs.declared.hosts.HostSet.TheVariants as set
use Rattle.pfr_ruleset.specs.declared.hosts.HostCriterion.{HostCriterion}

-- an entry with no `!` holds the address, and none that holds it is longer
abbrev pub is_longest : List Entry → ℕ → Entry → Bool
is_longest entries address e = list_all (λ f. not (holds address f) || nat_le (bits_of f) (bits_of e)) entries

abbrev pub says_yes : List Entry → ℕ → Entry → Bool
says_yes entries address e = holds address e && (not e.is_negated && is_longest entries address e)

-- of the entries that hold the address the longest decides by its sign; without such an entry the answer is no
unfoldable pub has : List Entry → ℕ → Bool
has entries address = list_any (says_yes entries address) entries

abbrev pub in_table : Option (List Entry) → ℕ → Bool
in_table None address = false
in_table (Some entries) address = has entries address

abbrev pub among : List (List Entry) → HostSet → ℕ → Bool
among tables set.Any address = true
among tables (set.Network network) address = networks.holds network (record { 0 = address })
among tables (set.Range first last) address = nat_le first.0 address && nat_le address last.0
among tables (set.Table place) address = in_table (slice_get tables place) address

-- a criterion with `!` holds exactly the addresses that it doesn't hold without it
unfoldable pub host_holds : List (List Entry) → HostCriterion → ℕ → Bool
host_holds tables criterion address = if criterion.is_negated then not (among tables criterion.hosts address) else among tables criterion.hosts address
