-- The entries of a table against those of its map.
use Rattle.std.proofs.Common.{◌≡◌, ◌≢◌, ◌<◌, ◌||◌, ◌&&◌, ℕ, Bool, true, false, cond, not, List, [], ◌∷◌, length, map, Option, Some, None, inl, inr, set, refl, sym, ap, ◌∙◌, subst, arith}
use Rattle.std.specs.Bool.{beq}
use Rattle.std.specs.BTreeMap as tree
use Rattle.std.specs.BTreeMap.{BTreeMap, insert_entry, is_at}
use Rattle.std.specs.Cmp.{IsTotalOrder, then_total, on_total, nat_cmp_total}
use Rattle.std.specs.List.{AllByRecursion}
use Rattle.std.specs.List.Sorted.{IsStrictlySortedBy}
use Rattle.std.specs.Map.{keys_of, lookup}
use Rattle.std.specs.Ordering.{match_ordering, is_eq}
use Rattle.std.specs.declared.cmp.Ordering.{Ordering}
use Rattle.std.specs.declared.cmp.Ordering.TheVariants.{Less, Equal, Greater}
use Rattle.std.proofs.lemmas.Bool.{cases_eq, false≢true}
use Rattle.std.proofs.lemmas.Grind.{get_or-set_at}
use Rattle.std.proofs.lemmas.List.{get_or-set_other}
use Rattle.std.proofs.lemmas.Map.Keys.{sorted_head, sorted_tail}
use Rattle.std.proofs.lemmas.Map.Lookups.{CmpEqualImpliesEq, exact_pairs, exact_unsigned}
use Rattle.std.proofs.lemmas.Map.Views.{All-keys-insert_entry}
use Rattle.std.specs.Ordering.{nat_cmp}
use Rattle.pfr_net.specs.declared.network.Net.{Net}
use Rattle.pfr_ruleset.specs.declared.table.Entry.{Entry}
use Rattle.pfr_ruleset.specs.Keys.{entry_at, key_of, key_cmp, IsKey, AreInOrder, is_other, AreKnown}
use Rattle.pfr_ruleset.specs.Tables.{clashes, with_entry}
use Rattle.pfr_ruleset.proofs.PrefixLemmas.{prefix-prefix, prefix-min}

pub key_order : IsTotalOrder key_cmp
key_order = then_total (on_total (λ k. k.0) nat_cmp_total) (on_total (λ k. k.1) nat_cmp_total)

pub key_exact : CmpEqualImpliesEq key_cmp
key_exact = exact_pairs nat_cmp nat_cmp exact_unsigned exact_unsigned

pub is_key : (network : Net) → IsKey (key_of network)
is_key network = (omega arith, rw prefix-min (prefix-prefix network.bits network.address.0))

-- ---- one more entry

puts_by : (o : Ordering) (k : ℕ × ℕ) (v : Bool) (x : (ℕ × ℕ) × Bool) (es more : List ((ℕ × ℕ) × Bool)) (put : List Entry) → key_cmp k x.0 ≡ o → map entry_at more ≡ put
    → map entry_at (match_ordering o ((k, v) ∷ x ∷ es) ((x.0, v) ∷ es) (x ∷ more)) ≡ match_ordering o (entry_at (k, v) ∷ entry_at x ∷ map entry_at es) (entry_at (k, v) ∷ map entry_at es) (entry_at x ∷ put)
puts_by Less k v x es more put is same = refl
puts_by Equal k v x es more put is same = ap (λ k. entry_at (k, v) ∷ map entry_at es) (sym (key_exact k x.0 is))
puts_by Greater k v x es more put is same = ap (λ put. entry_at x ∷ put) same

pub puts : (es : List ((ℕ × ℕ) × Bool)) (e : Entry) → map entry_at (insert_entry key_cmp es (key_of e.network) e.is_negated) ≡ with_entry (map entry_at es) e
puts [] e = refl
puts (x ∷ es) e = puts_by (key_cmp (key_of e.network) x.0) (key_of e.network) e.is_negated x es (insert_entry key_cmp es (key_of e.network) e.is_negated) (with_entry (map entry_at es) e) refl (puts es e)

pub puts_in_order : (es : List ((ℕ × ℕ) × Bool)) (network : Net) (is_negated : Bool) → AreInOrder es → IsStrictlySortedBy key_cmp (keys_of (insert_entry key_cmp es (key_of network) is_negated))
    → AreInOrder (insert_entry key_cmp es (key_of network) is_negated)
puts_in_order es network is_negated old sorted = record {
  sorted = sorted;
  keys = All-keys-insert_entry key_cmp (key_of network) is_negated IsKey es old.keys (is_key network);
}

-- ---- the sign of a network

none_behind : (es : List ((ℕ × ℕ) × Bool)) (e : Entry) → AllByRecursion (λ k. key_cmp (key_of e.network) k ≡ Less) (keys_of es) → clashes (map entry_at es) e ≡ false
none_behind [] e behind = refl
none_behind (x ∷ es) e behind = rw (behind.0) (none_behind es e behind.1)

or_none : (a b : Bool) → b ≡ false → a ≡ (a || b)
or_none true b none = refl
or_none false b none = sym none

clashes_by : (o : Ordering) (x : (ℕ × ℕ) × Bool) (es : List ((ℕ × ℕ) × Bool)) (e : Entry) → key_cmp (key_of e.network) x.0 ≡ o → AllByRecursion (λ k. key_cmp x.0 k ≡ Less) (keys_of es)
    → (found : Option Bool) → is_other found e.is_negated ≡ clashes (map entry_at es) e
    → is_other (cond (is_eq o) (Some x.1) found) e.is_negated ≡ ((is_eq o && not (beq x.1 e.is_negated)) || clashes (map entry_at es) e)
clashes_by Less x es e is behind found same = same
clashes_by Equal x es e is behind found same = or_none (not (beq x.1 e.is_negated)) (clashes (map entry_at es) e) (none_behind es e (subst (λ k. AllByRecursion (λ y. key_cmp k y ≡ Less) (keys_of es)) (sym (key_exact (key_of e.network) x.0 is)) behind))
clashes_by Greater x es e is behind found same = same

pub clashes_is : (es : List ((ℕ × ℕ) × Bool)) (e : Entry) → IsStrictlySortedBy key_cmp (keys_of es) → is_other (lookup (is_at (key_cmp (key_of e.network))) es) e.is_negated ≡ clashes (map entry_at es) e
clashes_is [] e sorted = refl
clashes_is (x ∷ es) e sorted =
    clashes_by (key_cmp (key_of e.network) x.0) x es e refl (sorted_head key_cmp x.0 (keys_of es) sorted) (lookup (is_at (key_cmp (key_of e.network))) es) (clashes_is es e (sorted_tail key_cmp x.0 (keys_of es) sorted))

pub clashes_found : (es : List ((ℕ × ℕ) × Bool)) (table : List Entry) (e : Entry) (k : ℕ × ℕ) (found : Option Bool) (other : Bool) → AreInOrder es → map entry_at es ≡ table → k ≡ key_of e.network
    → found ≡ lookup (is_at (key_cmp k)) es → other ≡ is_other found e.is_negated → other ≡ clashes table e
clashes_found es table e k found other in_order view key is says =
    says ∙ ap (λ found. is_other found e.is_negated) (is ∙ ap (λ k. lookup (is_at (key_cmp k)) es) key) ∙ clashes_is es e in_order.sorted ∙ ap (λ table. clashes table e) view

-- ---- the numbers of bits that are noted

known_at : (o : Ordering) (k q : ℕ × ℕ) (before after : Option Bool) (sign : Bool) → key_cmp k q ≡ o → after ≡ cond (is_eq o) (Some sign) before → k.0 ≢ q.0 → before ≡ None → after ≡ None
known_at Less k q before after sign is e differs none = e ∙ none
known_at Equal k q before after sign is e differs none = absurd (differs (ap (λ k. k.0) (key_exact k q is)))
known_at Greater k q before after sign is e differs none = e ∙ none

pub known_on : (m new : BTreeMap (ℕ × ℕ) Bool) (lengths : List Bool) (k : ℕ × ℕ) (sign : Bool) → AreKnown m lengths → k.0 < length lengths
    → ((q : ℕ × ℕ) → tree.get key_cmp new q ≡ cond (is_at (key_cmp k) q) (Some sign) (tree.get key_cmp m q)) → AreKnown new (set lengths k.0 true)
known_on m new lengths k sign known within updates bits base fits none = elim (cases_eq bits k.0) [
  | inl same ↦ absurd (false≢true (sym none ∙ get_or-set_at lengths k.0 bits true false same within))
  | inr other ↦ known_at (key_cmp k (bits, base)) k (bits, base) (tree.get key_cmp m (bits, base)) (tree.get key_cmp new (bits, base)) sign refl (updates (bits, base)) (λ e. other (sym e))
      (known bits base fits (sym (get_or-set_other lengths k.0 bits true false other) ∙ none))
]
