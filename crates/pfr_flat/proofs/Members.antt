-- Which addresses tables hold, and the criteria of a table with and without a `!`.
use Rattle.std.proofs.Common.{◌≡◌, ◌<◌, ◌≤◌, nat_lt, ℕ, Bool, true, false, ◌⊎◌, inl, inr, List, [], ◌∷◌, Option, Some, None, Result, Ok, refl, arith}
use Rattle.std.specs.List.{All, Contains, slice_get}
use Rattle.std.specs.Result.{IsOkAnd}
use Rattle.std.proofs.lemmas.Bool.{cases_lt, lt-ltb}
use Rattle.std.proofs.lemmas.List.Elements.{All-nil, All-cons, All-head, All-tail, All-contains, Contains-append_left, Contains-append_right, Contains-push}
use Rattle.pfr_ruleset.specs.declared.table.Entry.{Entry}
use Rattle.pfr_ruleset.specs.Tables.{bits_of, holds, IsMember}
use Rattle.pfr_ruleset.specs.declared.hosts.HostSet.TheVariants as set
use Rattle.pfr_ruleset.specs.Membership.{IsInTable}
use Rattle.pfr_terms.specs.declared.name.Name.{Name}
use Rattle.pfr_terms.specs.declared.address.Address.TheVariants as a
use Rattle.pfr_elements.specs.declared.scope.Scope.{Scope}
use Rattle.pfr_elements.specs.Hosts.{address_meaning, host_criterion}
use Rattle.pfr_elements.specs.Names.{last_place}
use Rattle.pfr_flat.specs.Laws.{AreOpposite, table_criterion}

-- ---- each address is in a table or it isn't

abbrev pub Decided : Type 0 → Type 0
Decided P = P ⊎ (¬ P)

decided_equal : (b c : Bool) → Decided (b ≡ c)
decided_equal true true = inl refl
decided_equal true false = inr (λ e. absurd (cc e))
decided_equal false true = inr (λ e. absurd (cc e))
decided_equal false false = inl refl

all_or_not : {X : Type 0} (P : X → Type 0) → ((x : X) → Decided (P x)) → (xs : List X) → Decided (All P xs)
all_or_not P decide [] = inl (All-nil P)
all_or_not P decide (x ∷ xs) = elim (decide x) [
  | inl p ↦ elim (all_or_not P decide xs) [
    | inl all ↦ inl (All-cons P x xs p all)
    | inr none ↦ inr (λ all. none (All-tail P x xs all))
  ]
  | inr fails ↦ inr (λ all. fails (All-head P x xs all))
]

one_or_none : {X : Type 0} (P : X → Type 0) → ((x : X) → Decided (P x)) → (xs : List X) → ((x : X) × Contains xs x × P x) ⊎ All (λ x. ¬ P x) xs
one_or_none P decide [] = inr (All-nil (λ x. ¬ P x))
one_or_none P decide (x ∷ xs) = elim (decide x) [
  | inl p ↦ inl (x, Contains-append_left (x ∷ []) xs x (Contains-push [] x), p)
  | inr fails ↦ elim (one_or_none P decide xs) [
    | inl one ↦ inl (one.0, Contains-append_right (x ∷ []) xs one.0 one.1, one.2)
    | inr none ↦ inr (All-cons (λ x. ¬ P x) x xs fails none)
  ]
]

-- the entry holds the address with no `!`, and none that holds it has a longer prefix
abbrev pub IsDeciding : List Entry → ℕ → Entry → Type 0
IsDeciding entries address e = (holds address e ≡ true) × (e.is_negated ≡ false) × All (λ f. holds address f ≡ true → bits_of f ≤ bits_of e) entries

no_longer : (address : ℕ) (e f : Entry) → Decided (holds address f ≡ true → bits_of f ≤ bits_of e)
no_longer address e f = elim (decided_equal (holds address f) true) [
  | inl it ↦ elim (cases_lt (bits_of e) (bits_of f)) [
    | inl longer ↦ inr (λ le. let h : bits_of f ≤ bits_of e = le it in omega (arith, h, longer))
    | inr le ↦ inl (λ _. le)
  ]
  | inr fails ↦ inl (λ it. absurd (fails it))
]

deciding : (entries : List Entry) (address : ℕ) (e : Entry) → Decided (IsDeciding entries address e)
deciding entries address e = elim (decided_equal (holds address e) true) [
  | inl it ↦ elim (decided_equal e.is_negated false) [
    | inl plain ↦ elim (all_or_not (λ f. holds address f ≡ true → bits_of f ≤ bits_of e) (no_longer address e) entries) [
      | inl all ↦ inl (it, plain, all)
      | inr fails ↦ inr (λ h. fails h.2)
    ]
    | inr fails ↦ inr (λ h. fails h.1)
  ]
  | inr fails ↦ inr (λ h. fails h.0)
]

member_or_not : (entries : List Entry) (address : ℕ) → Decided (IsMember entries address)
member_or_not entries address = elim (one_or_none (IsDeciding entries address) (deciding entries address) entries) [
  | inl one ↦ inl (one.0, one.1, one.2.0, one.2.1, one.2.2)
  | inr none ↦ inr (λ h. All-contains (λ e. ¬ IsDeciding entries address e) entries h.0 none h.1 (h.2, h.3, h.4))
]

in_table_or_not : (table : Option (List Entry)) (address : ℕ) → Decided (IsInTable table address)
in_table_or_not None address = inr (λ h. h)
in_table_or_not (Some entries) address = member_or_not entries address

-- ---- the criteria of a table

criterion_at : (scope : Scope) (name : Name) (is_negated : Bool) (place : ℕ) → last_place name.text scope.tables ≡ Some place → place < scope.defined → host_criterion scope (record { is_negated = is_negated; address = a.Table name }) ≡ Ok (record { is_negated = is_negated; hosts = set.Table place })
unfolding address_meaning
criterion_at scope name is_negated place is known =
    let defined : nat_lt place scope.defined ≡ true = lt-ltb place scope.defined known in
    rw (is, defined) refl

ok_and : {T E : Type 0} (P : T → Type 0) (r : Result T E) (x : T) → r ≡ Ok x → P x → IsOkAnd r P
ok_and P r x is p = rw is p

opposite : (place : ℕ) → AreOpposite (record { is_negated = true; hosts = set.Table place }) (record { is_negated = false; hosts = set.Table place })
opposite place tables address =
    ((λ h. h, λ h. h), (λ h fails. fails h, λ h. elim (in_table_or_not (slice_get tables place) address) [ inl it ↦ it | inr fails ↦ absurd (h fails) ]))

pub negated_table : (scope : Scope) (name : Name) (place : ℕ) → last_place name.text scope.tables ≡ Some place → place < scope.defined → IsOkAnd (table_criterion scope true name) (λ negated. IsOkAnd (table_criterion scope false name) (λ plain. AreOpposite negated plain))
negated_table scope name place is known =
    ok_and _ _ _ (criterion_at scope name true place is known) (ok_and _ _ _ (criterion_at scope name false place is known) (opposite place))
