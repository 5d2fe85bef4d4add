-- Which addresses the entries of a map hold.
use Rattle.std.proofs.Common.{◌≡◌, ◌↔◌, ◌≤◌, ◌<◌, ℕ, Bool, true, false, not, IsTrue, List, map, Option, Some, None, inl, inr, ◌+◌, sym, ap, ◌∙◌, subst, eq-eqb, arith}
use Rattle.std.specs.BTreeMap as tree
use Rattle.std.specs.BTreeMap.{BTreeMap}
use Rattle.std.specs.List.{All, Contains}
use Rattle.std.proofs.lemmas.Bool.{cases_lt, eqb-true, false≢true, not-true}
use Rattle.std.proofs.lemmas.List.Elements.{All-contains, All-contains_itself, All-weaker}
use Rattle.std.proofs.lemmas.Map.Views.{btree_map_get_iff}
use Rattle.std.specs.Map.{keys_of}
use Rattle.pfr_net.specs.Networks.{prefix}
use Rattle.pfr_ruleset.specs.declared.table.Entry.{Entry}
use Rattle.pfr_ruleset.specs.Keys.{entry_at, key_cmp, IsKey, AreInOrder}
use Rattle.pfr_ruleset.specs.Tables.{bits_of, holds, IsMember}
use Rattle.pfr_ruleset.proofs.KeyLemmas.{key_order, key_exact}
use Rattle.pfr_ruleset.proofs.Membership.{from_map, to_map}
use Rattle.pfr_ruleset.proofs.PrefixLemmas.{prefix-prefix}

-- no network of `low` bits or more holds the address
abbrev pub NoneFrom : BTreeMap (ℕ × ℕ) Bool → ℕ → ℕ → Type 0
NoneFrom m address low = (bits : ℕ) → low ≤ bits → bits ≤ 32 → tree.get key_cmp m (bits, prefix bits address) ≡ None

module _ (m : BTreeMap (ℕ × ℕ) Bool) (in_order : AreInOrder m.entries) (address : ℕ) where
  abbrev table : List Entry
  table = map entry_at m.entries

  found_key : (x : (ℕ × ℕ) × Bool) → Contains m.entries x → IsKey x.0
  found_key x h = All-contains IsKey (keys_of m.entries) x.0 in_order.keys (to_map (λ e. e.0) m.entries x h)

  found_at : (x : (ℕ × ℕ) × Bool) → Contains m.entries x → holds address (entry_at x) ≡ true → (x.0.0 ≤ 32) × (tree.get key_cmp m (x.0.0, prefix x.0.0 address) ≡ Some x.1)
  found_at x h it =
      let key = found_key x h in
      let same : prefix x.0.0 address ≡ x.0.1 = eqb-true (prefix x.0.0 address) (prefix x.0.0 x.0.1) it ∙ key.1 in
      (key.0, rw same ((btree_map_get_iff key_order key_exact m in_order.sorted x.0 x.1).1 h))

  -- an entry that holds the address is found by its bits
  found : (e : Entry) → Contains table e → holds address e ≡ true → (e.network.bits ≤ 32) × (tree.get key_cmp m (e.network.bits, prefix e.network.bits address) ≡ Some e.is_negated)
  found e h it =
      let at = from_map entry_at m.entries e h in
      let P : Entry → Type 0 = λ e. holds address e ≡ true → (e.network.bits ≤ 32) × (tree.get key_cmp m (e.network.bits, prefix e.network.bits address) ≡ Some e.is_negated) in
      subst P at.2 (found_at at.0 at.1) it

  short : (low : ℕ) → NoneFrom m address low → (e : Entry) → Contains table e → holds address e ≡ true → (e.network.bits ≤ 32) × (e.network.bits < low)
  short low none e h it =
      let is = found e h it in
      let fits = is.0 in
      elim (cases_lt e.network.bits low) [ inl below ↦ (fits, below) | inr above ↦ let no = none e.network.bits above fits in absurd (cc (is.1)) ]

  pub no_member : NoneFrom m address 0 → IsTrue false ↔ IsMember table address
  no_member none = (λ h. absurd (false≢true h), λ h. let below = (short 0 none h.0 h.1 h.2).1 in absurd (omega arith))

  module _ (bits : ℕ) (is_negated : Bool) (fits : bits ≤ 32) (none : NoneFrom m address (bits + 1)) (is : tree.get key_cmp m (bits, prefix bits address) ≡ Some is_negated) where
    abbrev longest : Entry
    longest = entry_at ((bits, prefix bits address), is_negated)

    is_there : Contains table longest
    is_there = to_map entry_at m.entries ((bits, prefix bits address), is_negated) ((btree_map_get_iff key_order key_exact m in_order.sorted (bits, prefix bits address) is_negated).0 is)

    it_holds : holds address longest ≡ true
    it_holds = eq-eqb (prefix bits address) (prefix bits (prefix bits address)) (sym (prefix-prefix bits address))

    none_longer : All (λ f. holds address f ≡ true → bits_of f ≤ bits_of longest) table
    none_longer = All-weaker (Contains table) (λ f. holds address f ≡ true → bits_of f ≤ bits_of longest) (λ f h it. let below = (short (bits + 1) none f h it).1 in omega arith) table (All-contains_itself table)

    same_sign : IsMember table address → is_negated ≡ false
    same_sign h =
        let below = short (bits + 1) none h.0 h.1 h.2 in
        let above = All-contains (λ f. holds address f ≡ true → bits_of f ≤ bits_of h.0) table longest h.4 is_there it_holds in
        let fits-h = below.0 in
        let low = below.1 in
        let same : h.0.network.bits ≡ bits = omega arith in
        let it = (found h.0 h.1 h.2).1 in
        let sign = h.3 in
        cc (it, same, is, sign)

    pub member_by : IsTrue (not is_negated) ↔ IsMember table address
    member_by = (λ h. (longest, is_there, it_holds, not-true is_negated h, none_longer), λ h. ap not (same_sign h))

-- the first sign that is found, from 32 bits down
pub member_found : (m : BTreeMap (ℕ × ℕ) Bool) (table : List Entry) (address bits base : ℕ) (found : Option Bool) (is_negated : Bool) → AreInOrder m.entries → map entry_at m.entries ≡ table → bits ≤ 32
    → NoneFrom m address (bits + 1) → base ≡ prefix bits address → found ≡ tree.get key_cmp m (bits, base) → found ≡ Some is_negated → IsTrue (not is_negated) ↔ IsMember table address
member_found m table address bits base found is_negated in_order view fits none same is says =
    let here : tree.get key_cmp m (bits, prefix bits address) ≡ Some is_negated = ap (λ base. tree.get key_cmp m (bits, base)) (sym same) ∙ sym is ∙ says in
    rw (← view) (member_by m in_order address bits is_negated fits none here)

-- no sign is found
pub none_found : (m : BTreeMap (ℕ × ℕ) Bool) (table : List Entry) (address bits : ℕ) → AreInOrder m.entries → map entry_at m.entries ≡ table → bits ≤ 0 → NoneFrom m address bits → IsTrue false ↔ IsMember table address
none_found m table address bits in_order view all none = rw (← view) (no_member m in_order address (λ b low fits. none b (omega arith) fits))
