-- How a table keeps its entries: each by its bits and its address.
use Rattle.std.specs.Prelude.{◌≡◌, ◌≤◌, ℕ, min, Bool, false, not, List, Option, Some, None}
use Rattle.std.specs.Bool.{beq}
use Rattle.std.specs.BTreeMap as tree
use Rattle.std.specs.BTreeMap.{BTreeMap}
use Rattle.std.specs.List.{All, slice_index_or}
use Rattle.std.specs.List.Sorted.{IsStrictlySortedBy}
use Rattle.std.specs.Map.{keys_of}
use Rattle.std.specs.Ordering.{nat_cmp, ordering_then}
use Rattle.std.specs.declared.cmp.Ordering.{Ordering}
use Rattle.pfr_net.specs.declared.network.Net.{Net}
use Rattle.pfr_net.specs.Networks.{prefix}
use Rattle.pfr_ruleset.specs.declared.table.Entry.{Entry}

-- the entry of a key and its sign
abbrev pub entry_at : (ℕ × ℕ) × Bool → Entry
entry_at e = record { network = record { address = record { 0 = e.0.1 }; bits = e.0.0 }; is_negated = e.1 }

-- the key of a network: its bits, 32 at most, and its address without those below its prefix
abbrev pub key_of : Net → ℕ × ℕ
key_of network = (min network.bits 32, prefix network.bits network.address.0)

-- fewer bits first, then lesser addresses
abbrev pub key_cmp : ℕ × ℕ → ℕ × ℕ → Ordering
key_cmp a b = ordering_then (nat_cmp a.0 b.0) (nat_cmp a.1 b.1)

-- at most 32 bits, and none below the prefix
abbrev pub IsKey : ℕ × ℕ → Type 0
IsKey k = (k.0 ≤ 32) × (prefix k.0 k.1 ≡ k.1)

-- each key once, in the order of the keys
pub record AreInOrder (entries : List ((ℕ × ℕ) × Bool)) : Type 0 where
  pub sorted : IsStrictlySortedBy key_cmp (keys_of entries)
  pub keys : All IsKey (keys_of entries)

-- whether there is a sign, and it isn't this one
abbrev pub is_other : Option Bool → Bool → Bool
is_other None is_negated = false
is_other (Some sign) is_negated = not (beq sign is_negated)

-- no key has a number of bits that isn't noted
abbrev pub AreKnown : BTreeMap (ℕ × ℕ) Bool → List Bool → Type 0
AreKnown map lengths = (bits base : ℕ) → bits ≤ 32 → slice_index_or lengths bits false ≡ false → tree.get key_cmp map (bits, base) ≡ None
