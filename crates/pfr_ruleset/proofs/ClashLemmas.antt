-- Where entries clash.
use Rattle.std.proofs.Common.{◌≡◌, ◌≢◌, ◌↔◌, ◌&&◌, ℕ, inl, inr, Bool, true, false, not, if◌then◌else◌, List, [], ◌∷◌, ◌++◌, Option, Some, None, append_assoc, refl, sym, ap, ◌∙◌, subst}
use Rattle.std.specs.Bool.{beq}
use Rattle.std.specs.Cmp.{Equal-is, tied_itself}
use Rattle.std.specs.List.{Contains}
use Rattle.std.specs.Ordering.{is_eq}
use Rattle.std.specs.declared.cmp.Ordering.TheVariants.{Equal}
use Rattle.std.proofs.lemmas.Bool.{and_parts, or_cases, true≢false, false≢true}
use Rattle.std.proofs.lemmas.List.Elements.{Contains-append_left, Contains-append_right, Contains-push, Contains-push_cases}
use Rattle.pfr_net.specs.declared.network.Net.{Net}
use Rattle.pfr_ruleset.specs.declared.table.Entry.{Entry}
use Rattle.pfr_ruleset.specs.Keys.{entry_at, key_cmp, key_of}
use Rattle.pfr_ruleset.specs.Tables.{kept, order, clashes, with_entry, table_from, table_of, HasClash}
use Rattle.pfr_ruleset.proofs.KeyLemmas.{key_exact, key_order}
use Rattle.pfr_ruleset.proofs.Membership.{here, there, in_none, in_cons}
use Rattle.pfr_ruleset.proofs.WrittenLemmas.{Made, accepted_by, has_it, keeps, made, none_parts, only_it, same_sign}

-- ---- entries that make no table

other_sign : (a b : Bool) → not (beq a b) ≡ true → a ≢ b
other_sign true true is same = false≢true is
other_sign false false is same = false≢true is
other_sign true false is same = true≢false same
other_sign false true is same = false≢true same

level_network : (e g : Entry) → order (kept e) g ≡ Equal → (kept e).network ≡ g.network
level_network e g level = ap (λ (k : ℕ × ℕ). (entry_at (k, false)).network) (key_exact (key_of e.network) (g.network.bits, g.network.address.0) level)

clash_at : (table : List Entry) (e : Entry) → clashes table e ≡ true → (g : Entry) × Contains table g × ((kept e).network ≡ g.network) × (g.is_negated ≢ e.is_negated)
clash_at [] e is = absurd (false≢true is)
clash_at (f ∷ table) e is = elim (or_cases (is_eq (order (kept e) f) && not (beq f.is_negated e.is_negated)) (clashes table e) is) [
  | inl both ↦
      let parts = and_parts (is_eq (order (kept e) f)) (not (beq f.is_negated e.is_negated)) both in
      (f, here f table, level_network e f ((Equal-is (order (kept e) f)).0 parts.0), other_sign f.is_negated e.is_negated parts.1)
  | inr rest ↦ let at = clash_at table e rest in (at.0, there f table at.0 at.1, at.2, at.3)
]

made_push : (before table : List Entry) (e : Entry) → clashes table e ≡ false → Made [] before table → Made [] (before ++ e ∷ []) (with_entry table e)
made_push before table e none all = record {
  keeps = λ g h. absurd (in_none g h);
  has = λ f h. elim (Contains-push_cases before e f h) [
    | inl old ↦ keeps table e (kept f) none (all.has f old)
    | inr is ↦ rw (← is) (has_it table e)
  ];
  only = λ g h. elim (only_it table e g h) [
    | inl old ↦ elim (all.only g old) [
      | inl none ↦ inl none
      | inr at ↦ inr (at.0, Contains-append_left before (e ∷ []) at.0 at.1, at.2)
    ]
    | inr is ↦ inr (e, Contains-push before e, is)
  ];
}

clash_here : (before table entries : List Entry) (e : Entry) → Made [] before table → clashes table e ≡ true → HasClash (before ++ e ∷ entries)
clash_here before table entries e all is =
    let at = clash_at table e is in
    elim (all.only at.0 at.1) [
      | inl none ↦ absurd (in_none at.0 none)
      | inr other ↦ (
        e,
        other.0,
        Contains-append_right before (e ∷ entries) e (here e entries),
        Contains-append_left before (e ∷ entries) other.0 other.1,
        at.2 ∙ ap (λ (g : Entry). g.network) (sym other.2),
        λ same. at.3 (ap (λ (g : Entry). g.is_negated) (sym other.2) ∙ sym same),
      )
    ]

clash_by : (clash : Bool) (before table entries : List Entry) (e : Entry) → Made [] before table → clashes table e ≡ clash
    → (Made [] (before ++ e ∷ []) (with_entry table e) → table_from (with_entry table e) entries ≡ None → HasClash ((before ++ e ∷ []) ++ entries))
    → (if clash then None else table_from (with_entry table e) entries) ≡ None → HasClash (before ++ e ∷ entries)
clash_by true before table entries e all is rest none = clash_here before table entries e all is
clash_by false before table entries e all is rest none = subst HasClash (append_assoc before (e ∷ []) entries) (rest (made_push before table e is all) none)

clash_from : (entries before table : List Entry) → Made [] before table → table_from table entries ≡ None → HasClash (before ++ entries)
clash_from [] before table all none = absurd (cc none)
clash_from (e ∷ entries) before table all none = clash_by (clashes table e) before table entries e all refl (clash_from entries (before ++ e ∷ []) (with_entry table e)) none

-- ---- entries that make a table

abbrev OneSign : List Entry → Type 0
OneSign table = (g h : Entry) → Contains table g → Contains table h → g.network ≡ h.network → g.is_negated ≡ h.is_negated

is_level : (e f : Entry) → (kept e).network ≡ f.network → is_eq (order (kept e) f) ≡ true
is_level e f same = subst (λ (n : Net). is_eq (key_cmp (key_of e.network) (n.bits, n.address.0)) ≡ true) same (ap is_eq (tied_itself key_order (key_of e.network)))

sign_by : (level other : Bool) → (level && other) ≡ false → level ≡ true → other ≡ false
sign_by true other none is = none
sign_by false other none is = absurd (false≢true is)

no_clash_at : (table : List Entry) (e g : Entry) → clashes table e ≡ false → Contains table g → (kept e).network ≡ g.network → g.is_negated ≡ e.is_negated
no_clash_at [] e g none h same = absurd (in_none g h)
no_clash_at (f ∷ table) e g none h same =
    let parts = none_parts (is_eq (order (kept e) f) && not (beq f.is_negated e.is_negated)) (clashes table e) none in
    elim (in_cons f table g h) [
      | inl is ↦
          let level = is_level e f (same ∙ ap (λ (g : Entry). g.network) (sym is)) in
          let signs = sign_by (is_eq (order (kept e) f)) (not (beq f.is_negated e.is_negated)) parts.0 level in
          ap (λ (g : Entry). g.is_negated) (sym is) ∙ same_sign f.is_negated e.is_negated signs
      | inr old ↦ no_clash_at table e g parts.1 old same
    ]

one_sign_more : (table : List Entry) (e : Entry) → clashes table e ≡ false → OneSign table → OneSign (with_entry table e)
one_sign_more table e none one g h in-g in-h same = elim (only_it table e g in-g) [
  | inl old ↦ elim (only_it table e h in-h) [
    | inl older ↦ one g h old older same
    | inr is ↦ no_clash_at table e g none old (ap (λ (g : Entry). g.network) is ∙ sym same) ∙ ap (λ (g : Entry). g.is_negated) is
  ]
  | inr new ↦ elim (only_it table e h in-h) [
    | inl older ↦ ap (λ (g : Entry). g.is_negated) (sym new) ∙ sym (no_clash_at table e h none older (ap (λ (g : Entry). g.network) new ∙ same))
    | inr is ↦ ap (λ (g : Entry). g.is_negated) (sym new ∙ is)
  ]
]

one_sign : (entries table found : List Entry) → OneSign table → table_from table entries ≡ Some found → OneSign found
one_sign [] table found one is = let same : table ≡ found = cc is in subst OneSign same one
one_sign (e ∷ entries) table found one is =
    let next = accepted_by (clashes table e) (table_from (with_entry table e) entries) found is in
    one_sign entries (with_entry table e) found (one_sign_more table e next.0 one) next.1

none_by : (entries : List Entry) (found : Option (List Entry)) → table_from [] entries ≡ found → HasClash entries → found ≡ None
none_by entries None is clash = refl
none_by entries (Some table) is clash =
    let all = made entries [] table is in
    let one = one_sign entries [] table (λ g h none. absurd (in_none g none)) is in
    absurd (clash.5 (one (kept clash.0) (kept clash.1) (all.has clash.0 clash.2) (all.has clash.1 clash.3) clash.4))

pub none_where_two_clash : (entries : List Entry) → (table_of entries ≡ None) ↔ HasClash entries
unfolding table_of
none_where_two_clash entries = (
  λ none. clash_from entries [] [] (record { keeps = λ g h. h; has = λ e h. absurd (in_none e h); only = λ g h. inl h }) none,
  none_by entries (table_from [] entries) refl,
)
