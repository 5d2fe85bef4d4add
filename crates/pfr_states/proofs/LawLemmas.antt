-- What is left of a table at a later clock, and who has a key.
use Rattle.std.proofs.Common.{◌≡◌, ◌≤◌, ◌∙◌, Bool, true, false, not, if◌then◌else◌, inl, inr, List, [], ◌∷◌, Option, Some, refl, sym, ap, arith}
use Rattle.std.specs.List.{Contains, filter, list_any}
use Rattle.std.proofs.lemmas.Bool.{and_parts, and_right, cases_Bool, cond-false, false≢true, not-true, lt-ltb, ltb-true}
use Rattle.pfr_net.specs.declared.interface.Binding.TheVariants.{To}
use Rattle.pfr_net.specs.declared.interface.InterfacePlace.{InterfacePlace}
use Rattle.pfr_net.specs.Interfaces.{meets}
use Rattle.pfr_track.specs.declared.key.Key.{Key}
use Rattle.pfr_track.specs.declared.state.State.{State}
use Rattle.pfr_track.specs.declared.time.Clock.{Clock}
use Rattle.pfr_states.specs.declared.change.Side.{Side}
use Rattle.pfr_states.specs.States.{IsTable, StateTable, at, have_own_keys, is_found, is_same_key, key_on, lives, purged, shares_key}
use Rattle.pfr_states.proofs.KeyLemmas.{shares_turned}
use Rattle.pfr_states.proofs.Membership.{in_cons, in_none, none_of}

filter_narrower : {X : Type 0} (p q : X → Bool) (xs : List X) → ((x : X) → q x ≡ true → p x ≡ true) → filter q (filter p xs) ≡ filter q xs
filter_narrower p q [] narrower = refl
filter_narrower p q (x ∷ xs) narrower =
    let rest = filter_narrower p q xs narrower in
    elim (cases_Bool (q x)) [
      | inl it_is ↦ rw (narrower x it_is, it_is) (ap (λ xs. x ∷ xs) rest)
      | inr not_it ↦ elim (cases_Bool (p x)) [ inl kept ↦ rw (kept, not_it) rest | inr gone ↦ rw (gone, not_it) rest ]
    ]

lived : (first later : Clock) → first.0 ≤ later.0 → (state : State) → lives later state ≡ true → lives first state ≡ true
lived first later since state alive = (let below = ltb-true later.0 state.deadline.0 alive in lt-ltb first.0 state.deadline.0 (omega arith))

pub purged_twice : (states : List State) (first later : Clock) → first.0 ≤ later.0 → purged later (purged first states) ≡ purged later states
purged_twice states first later since = filter_narrower (lives first) (lives later) states (lived first later since)

-- ---- bindings

pub bound_elsewhere : (side : Side) (key : Key) (place : InterfacePlace) (states : List State) → at side key (To place) (filter (λ state. meets state.rules.binding (To place)) states) ≡ at side key (To place) states
bound_elsewhere side key place [] = refl
bound_elsewhere side key place (x ∷ xs) = by (bound_elsewhere side key place xs) (meets x.rules.binding (To place)) refl where
  kept : List State
  kept = filter (λ state. meets state.rules.binding (To place)) xs

  by : at side key (To place) kept ≡ at side key (To place) xs → (met : Bool) → meets x.rules.binding (To place) ≡ met → at side key (To place) (if met then x ∷ kept else kept) ≡ at side key (To place) (x ∷ xs)
  by same true is = ap (λ (rest : Option State). if is_found side key (To place) x then Some x else rest) same
  by same false is = same ∙ sym (cond-false (is_found side key (To place) x) (Some x) (at side key (To place) xs) (and_right (is_same_key (key_on side x) key) (meets x.rules.binding (To place)) is))

-- ---- keys

pub one_of : (states : List State) (a b : State) → have_own_keys states ≡ true → Contains states a → Contains states b → shares_key a b ≡ true → a ≡ b
one_of [] a b own has_a has_b shared = absurd (in_none a has_a)
one_of (x ∷ xs) a b own has_a has_b shared =
    let parts = and_parts (not (list_any (shares_key x) xs)) (have_own_keys xs) own in
    let alone = not-true (list_any (shares_key x) xs) parts.0 in
    elim (in_cons x xs a has_a) [
      | inl is_a ↦ elim (in_cons x xs b has_b) [
        | inl is_b ↦ sym is_a ∙ is_b
        | inr rest_b ↦ absurd (false≢true (sym (none_of (shares_key x) xs b alone rest_b) ∙ ap (λ x. shares_key x b) is_a ∙ shared))
      ]
      | inr rest_a ↦ elim (in_cons x xs b has_b) [
        | inl is_b ↦ absurd (false≢true (sym (none_of (shares_key x) xs a alone rest_a) ∙ ap (λ x. shares_key x a) is_b ∙ shares_turned b a ∙ shared))
        | inr rest_b ↦ one_of xs a b parts.1 rest_a rest_b shared
      ]
    ]

pub one_state : (table : StateTable) (a b : State) → IsTable table → Contains table.states a → Contains table.states b → shares_key a b ≡ true → a ≡ b
one_state table a b is_table = one_of table.states a b is_table.own_keys
