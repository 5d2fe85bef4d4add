-- Tables of addresses.
use Rattle.std.specs.Prelude.{◌≡◌, ◌≢◌, ◌≤◌, ◌&&◌, ℕ, Bool, true, false, not, if◌then◌else◌, min, List, [], ◌∷◌, Option, Some, None}
use Rattle.std.specs.Bool.{beq}
use Rattle.std.specs.List.{All, Contains, list_any}
use Rattle.std.specs.Ordering.{nat_cmp, ordering_then, is_eq, match_ordering}
use Rattle.std.specs.declared.cmp.Ordering.{Ordering}
use Rattle.pfr_net.specs.Networks.{prefix}
use Rattle.pfr_net.specs.Networks as networks
use Rattle.pfr_ruleset.specs.declared.table.Entry.{Entry}

-- ---- what a table holds

-- the length of an entry's prefix: more than 32 bits count as 32
abbrev pub bits_of : Entry → ℕ
bits_of e = min e.network.bits 32

-- whether an entry's network holds an address: the two agree in the bits of the prefix
abbrev pub holds : ℕ → Entry → Bool
holds address e = networks.holds e.network (record { 0 = address })

-- of the entries that hold the address the longest decides by its sign; if none holds it, the table doesn't
abbrev pub IsMember : List Entry → ℕ → Type 0
IsMember entries address = (e : Entry) × Contains entries e × (holds address e ≡ true) × (e.is_negated ≡ false) × All (λ f. holds address f ≡ true → bits_of f ≤ bits_of e) entries

-- ---- how a table is made

-- an entry as a table keeps it: at most 32 bits, and none below its prefix
abbrev pub kept : Entry → Entry
kept e = record { network = record { address = record { 0 = prefix e.network.bits e.network.address.0 }; bits = bits_of e }; is_negated = e.is_negated }

-- the order of a table's entries: fewer bits first, then lesser addresses
abbrev pub order : Entry → Entry → Ordering
order e f = ordering_then (nat_cmp e.network.bits f.network.bits) (nat_cmp e.network.address.0 f.network.address.0)

-- the table has this network with the other sign
abbrev pub clashes : List Entry → Entry → Bool
clashes table e = list_any (λ f. is_eq (order (kept e) f) && not (beq f.is_negated e.is_negated)) table

-- the table with this entry at its place in the order; an equal network stands there once
abbrev pub with_entry : List Entry → Entry → List Entry
with_entry [] e = kept e ∷ []
with_entry (f ∷ table) e = match_ordering (order (kept e) f) (kept e ∷ f ∷ table) (kept e ∷ table) (f ∷ with_entry table e)

-- a table with more entries, in the order in which they are written: none if an entry clashes
abbrev pub table_from : List Entry → List Entry → Option (List Entry)
table_from table [] = Some table
table_from table (e ∷ entries) = if clashes table e then None else table_from (with_entry table e) entries

-- the table of entries in the order in which they are written: none if two of them clash
unfoldable pub table_of : List Entry → Option (List Entry)
table_of entries = table_from [] entries

-- two of the entries are one network, once with a `!` and once without
abbrev pub HasClash : List Entry → Type 0
HasClash entries = (e : Entry) × (f : Entry) × Contains entries e × Contains entries f × ((kept e).network ≡ (kept f).network) × (e.is_negated ≢ f.is_negated)
