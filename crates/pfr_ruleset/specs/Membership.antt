-- Which addresses a rule's criterion holds, given the entries of each table of the ruleset.
use Rattle.std.specs.Prelude.{◌≤◌, ℕ, Bool, true, false, IsTrue, List, Option, Some, None, slice_get, ⊤}
use Rattle.pfr_net.specs.Networks.{holds}
use Rattle.pfr_ruleset.specs.declared.table.Entry.{Entry}
use Rattle.pfr_ruleset.specs.Tables.{IsMember}
use Rattle.pfr_ruleset.specs.declared.hosts.HostSet.{HostSet}
use Rattle.pfr_ruleset.specs.declared.hosts.HostSet.TheVariants as set
use Rattle.pfr_ruleset.specs.declared.hosts.HostCriterion.{HostCriterion}

-- the address is in the table, if there is one
abbrev pub IsInTable : Option (List Entry) → ℕ → Type 0
IsInTable None address = ⊥
IsInTable (Some entries) address = IsMember entries address

-- any address; those that the network holds; those from the first to the last; those
-- of the table at this place; a place outside the tables holds none
abbrev pub IsAmong : List (List Entry) → HostSet → ℕ → Type 0
IsAmong tables set.Any address = ⊤
IsAmong tables (set.Network network) address = IsTrue (holds network (record { 0 = address }))
IsAmong tables (set.Range first last) address = (first.0 ≤ address) × (address ≤ last.0)
IsAmong tables (set.Table place) address = IsInTable (slice_get tables place) address

-- behind a `!` just what doesn't hold without it
abbrev pub SignedBy : Bool → Type 0 → Type 0
SignedBy true P = ¬ P
SignedBy false P = P

-- whether a criterion holds an address
abbrev pub Holds : List (List Entry) → HostCriterion → ℕ → Type 0
Holds tables criterion address = SignedBy criterion.is_negated (IsAmong tables criterion.hosts address)
