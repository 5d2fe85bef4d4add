-- A table says of each address what its entries say as they are written.
use Rattle.std.proofs.Common.{◌≡◌, ◌↔◌, ◌≤◌, ◌&&◌, ◌||◌, ℕ, min, ◌⊎◌, inl, inr, Bool, true, false, not, if◌then◌else◌, List, [], ◌∷◌, Option, Some, None, refl, sym, ap, ◌∙◌, arith}
use Rattle.std.specs.Bool.{beq}
use Rattle.std.specs.List.{All, Contains}
use Rattle.std.specs.Ordering.{is_eq, match_ordering}
use Rattle.std.specs.declared.cmp.Ordering.{Ordering}
use Rattle.std.specs.declared.cmp.Ordering.TheVariants.{Less, Equal, Greater}
use Rattle.std.proofs.lemmas.List.Elements.{All-contains, All-contains_itself, All-weaker}
use Rattle.pfr_net.specs.Networks.{prefix}
use Rattle.pfr_ruleset.specs.declared.table.Entry.{Entry}
use Rattle.pfr_ruleset.specs.Keys.{entry_at}
use Rattle.pfr_ruleset.specs.Tables.{bits_of, holds, IsMember, kept, order, clashes, with_entry, table_from, table_of}
use Rattle.pfr_ruleset.proofs.KeyLemmas.{key_exact}
use Rattle.pfr_ruleset.proofs.Membership.{here, there, in_none, in_cons}
use Rattle.pfr_ruleset.proofs.PrefixLemmas.{prefix-prefix, prefix-min}

-- ---- an entry as it is kept

kept-kept : (e : Entry) → kept (kept e) ≡ kept e
kept-kept e =
    let bits : min (min e.network.bits 32) 32 ≡ min e.network.bits 32 = omega arith in
    let address : prefix (min e.network.bits 32) (prefix e.network.bits e.network.address.0) ≡ prefix e.network.bits e.network.address.0 = prefix-min e.network.bits (prefix e.network.bits e.network.address.0) ∙ prefix-prefix e.network.bits e.network.address.0 in
    rw (bits, address) refl

holds-kept : (address : ℕ) (e : Entry) → holds address (kept e) ≡ holds address e
holds-kept address e =
    let bits = e.network.bits in
    rw (prefix-min bits address, prefix-min bits (prefix bits e.network.address.0), prefix-prefix bits e.network.address.0) refl

bits_of-kept : (e : Entry) → bits_of (kept e) ≡ bits_of e
bits_of-kept e = omega arith

-- two entries that are kept as one say the same
holds_alike : (address : ℕ) (e f : Entry) → kept e ≡ kept f → holds address e ≡ holds address f
holds_alike address e f same = sym (holds-kept address e) ∙ ap (λ e. holds address e) same ∙ holds-kept address f

bits_alike : (e f : Entry) → kept e ≡ kept f → bits_of e ≡ bits_of f
bits_alike e f same = ap (λ (e : Entry). e.network.bits) same

sign_alike : (e f : Entry) → kept e ≡ kept f → e.is_negated ≡ f.is_negated
sign_alike e f same = ap (λ (e : Entry). e.is_negated) same

-- each entry of the one list is kept as one of the other
abbrev IsWithin : List Entry → List Entry → Type 0
IsWithin these those = (e : Entry) → Contains these e → (f : Entry) × Contains those f × (kept f ≡ kept e)

longest_alike : (these those : List Entry) (address : ℕ) (e g : Entry) → IsWithin those these → kept g ≡ kept e → All (λ f. holds address f ≡ true → bits_of f ≤ bits_of e) these
    → All (λ f. holds address f ≡ true → bits_of f ≤ bits_of g) those
longest_alike these those address e g within same longest =
    All-weaker (Contains those) (λ f. holds address f ≡ true → bits_of f ≤ bits_of g) (λ f h it.
    let at = within f h in
    let its = holds_alike address at.0 f at.2 ∙ it in
    let below = All-contains (λ f. holds address f ≡ true → bits_of f ≤ bits_of e) these at.0 longest at.1 its in
    let one = bits_alike at.0 f at.2 in
    let other = bits_alike g e same in
    rw (← one, other) below) those (All-contains_itself those)

member_alike : (these those : List Entry) (address : ℕ) → IsWithin these those → IsWithin those these → IsMember these address → IsMember those address
member_alike these those address there_too here_too h =
    let at = there_too h.0 h.1 in
    (at.0, at.1, holds_alike address at.0 h.0 at.2 ∙ h.2, sign_alike at.0 h.0 at.2 ∙ h.3, longest_alike these those address h.0 at.0 here_too at.2 h.4)

-- ---- one more entry

pub same_sign : (a b : Bool) → not (beq a b) ≡ false → a ≡ b
same_sign true true is = refl
same_sign false false is = refl
same_sign true false is = is
same_sign false true is = sym is

-- what is kept at an equal network
same_entry : (f e : Entry) → order (kept e) f ≡ Equal → not (beq f.is_negated e.is_negated) ≡ false → f ≡ kept e
same_entry f e level sign =
    ap (λ (k : ℕ × ℕ). entry_at (k, f.is_negated)) (sym (key_exact ((kept e).network.bits, (kept e).network.address.0) (f.network.bits, f.network.address.0) level))
    ∙ ap (λ (sign : Bool). entry_at (((kept e).network.bits, (kept e).network.address.0), sign)) (same_sign f.is_negated e.is_negated sign)

pub none_parts : (a b : Bool) → (a || b) ≡ false → (a ≡ false) × (b ≡ false)
none_parts false b none = (refl, none)
none_parts true b none = absurd (cc none)

has_by : (o : Ordering) (f : Entry) (table more : List Entry) (e : Entry) → Contains more (kept e) → Contains (match_ordering o (kept e ∷ f ∷ table) (kept e ∷ table) (f ∷ more)) (kept e)
has_by Less f table more e h = here (kept e) (f ∷ table)
has_by Equal f table more e h = here (kept e) table
has_by Greater f table more e h = there f more (kept e) h

pub has_it : (table : List Entry) (e : Entry) → Contains (with_entry table e) (kept e)
has_it [] e = here (kept e) []
has_it (f ∷ table) e = has_by (order (kept e) f) f table (with_entry table e) e (has_it table e)

only_by : (o : Ordering) (f : Entry) (table more : List Entry) (e g : Entry) → (Contains more g → Contains table g ⊎ (kept e ≡ g)) → Contains (match_ordering o (kept e ∷ f ∷ table) (kept e ∷ table) (f ∷ more)) g
    → Contains (f ∷ table) g ⊎ (kept e ≡ g)
only_by Less f table more e g rest h = elim (in_cons (kept e) (f ∷ table) g h) [ inl is ↦ inr is | inr old ↦ inl old ]
only_by Equal f table more e g rest h = elim (in_cons (kept e) table g h) [ inl is ↦ inr is | inr old ↦ inl (there f table g old) ]
only_by Greater f table more e g rest h = elim (in_cons f more g h) [
  | inl is ↦ inl (rw (← is) (here f table))
  | inr old ↦ elim (rest old) [ inl older ↦ inl (there f table g older) | inr is ↦ inr is ]
]

pub only_it : (table : List Entry) (e g : Entry) → Contains (with_entry table e) g → Contains table g ⊎ (kept e ≡ g)
only_it [] e g h = elim (in_cons (kept e) [] g h) [ inl is ↦ inr is | inr none ↦ inl none ]
only_it (f ∷ table) e g h = only_by (order (kept e) f) f table (with_entry table e) e g (only_it table e g) h

keeps_by : (o : Ordering) (f : Entry) (table more : List Entry) (e g : Entry) → order (kept e) f ≡ o → (is_eq o && not (beq f.is_negated e.is_negated)) ≡ false → (Contains table g → Contains more g) → Contains (f ∷ table) g
    → Contains (match_ordering o (kept e ∷ f ∷ table) (kept e ∷ table) (f ∷ more)) g
keeps_by Less f table more e g is none rest h = there (kept e) (f ∷ table) g h
keeps_by Equal f table more e g is none rest h = elim (in_cons f table g h) [
  | inl same ↦ rw (← (sym (same_entry f e is none) ∙ same)) (here (kept e) table)
  | inr old ↦ there (kept e) table g old
]
keeps_by Greater f table more e g is none rest h = elim (in_cons f table g h) [
  | inl same ↦ rw (← same) (here f more)
  | inr old ↦ there f more g (rest old)
]

pub keeps : (table : List Entry) (e g : Entry) → clashes table e ≡ false → Contains table g → Contains (with_entry table e) g
keeps [] e g none h = absurd (in_none g h)
keeps (f ∷ table) e g none h =
    let parts = none_parts (is_eq (order (kept e) f) && not (beq f.is_negated e.is_negated)) (clashes table e) none in
    keeps_by (order (kept e) f) f table (with_entry table e) e g refl parts.0 (keeps table e g parts.1) h

-- ---- all entries

pub accepted_by : (clash : Bool) (next : Option (List Entry)) (found : List Entry) → (if clash then None else next) ≡ Some found → (clash ≡ false) × (next ≡ Some found)
accepted_by false next found is = (refl, is)
accepted_by true next found is = absurd (cc is)

pub record Made (table entries found : List Entry) : Type 0 where
  pub keeps : (g : Entry) → Contains table g → Contains found g
  pub has : (e : Entry) → Contains entries e → Contains found (kept e)
  pub only : (g : Entry) → Contains found g → Contains table g ⊎ ((e : Entry) × Contains entries e × (kept e ≡ g))

made_more : (table entries found : List Entry) (e : Entry) → clashes table e ≡ false → Made (with_entry table e) entries found → Made table (e ∷ entries) found
made_more table entries found e none rest = record {
  keeps = λ g h. rest.keeps g (keeps table e g none h);
  has = λ f h. elim (in_cons e entries f h) [ inl is ↦ rw (← is) (rest.keeps (kept e) (has_it table e)) | inr old ↦ rest.has f old ];
  only = λ g h. elim (rest.only g h) [
    | inl new ↦ elim (only_it table e g new) [ inl old ↦ inl old | inr is ↦ inr (e, here e entries, is) ]
    | inr old ↦ inr (old.0, there e entries old.0 old.1, old.2)
  ];
}

pub made : (entries table found : List Entry) → table_from table entries ≡ Some found → Made table entries found
made [] table found is =
    let same : table ≡ found = cc is in
    rw (← same) (record { keeps = λ g h. h; has = λ e h. absurd (in_none e h); only = λ g h. inl h })
made (e ∷ entries) table found is =
    let next = accepted_by (clashes table e) (table_from (with_entry table e) entries) found is in
    made_more table entries found e next.0 (made entries (with_entry table e) found next.1)

pub table_holds : (entries table : List Entry) (address : ℕ) → table_of entries ≡ Some table → IsMember table address ↔ IsMember entries address
unfolding table_of
table_holds entries table address is =
    let all = made entries [] table is in
    let written : IsWithin table entries = λ g h. elim (all.only g h) [
      | inl none ↦ absurd (in_none g none)
      | inr at ↦ (at.0, at.1, sym (kept-kept at.0) ∙ ap kept at.2)
    ] in
    let there_too : IsWithin entries table = λ e h. (kept e, all.has e h, kept-kept e) in
    (member_alike table entries address written there_too, member_alike entries table address there_too written)
