-- Who has a key of another state, on an interface to which both are bound.
use Rattle.std.proofs.Common.{◌≡◌, ◌&&◌, ◌||◌, ◌∙◌, Bool, true, false, not, List, [], ◌∷◌, Some, None, sym, refl, ap, inl, inr}
use Rattle.std.specs.List.{Contains, list_any}
use Rattle.std.proofs.lemmas.Bool.{and_from, and_left, and_parts, and_right, cases_Bool, false≢true, or_from, or_parts}
use Rattle.pfr_net.specs.Interfaces.{meets}
use Rattle.pfr_track.specs.declared.state.State.{State}
use Rattle.pfr_track.specs.declared.state.StateNumber.{StateNumber}
use Rattle.pfr_states.specs.declared.change.Side.{Side}
use Rattle.pfr_states.specs.declared.change.Side.TheVariants.{Wire, Stack}
use Rattle.pfr_states.specs.Indexed.{is_another}
use Rattle.pfr_states.specs.States.{is_found, is_number, is_same_key, key_on, rise, shares_key, state_of, with_state, with_touched}
use Rattle.pfr_states.proofs.OwnKeys.{shares_side}
use Rattle.pfr_states.proofs.FindLemmas.{found_none, found_there, none_any, some_any, with_present}
use Rattle.pfr_states.proofs.KeyLemmas.{key_turned, meets_turned}
use Rattle.pfr_states.proofs.Membership.{here, none_of, there}
use Rattle.pfr_states.proofs.TouchLemmas.{other_shares}

-- ---- lists

any_found : {X : Type 0} (p : X → Bool) (xs : List X) → list_any p xs ≡ true → (a : X) × Contains xs a × (p a ≡ true)
any_found p [] some = absurd (false≢true some)
any_found p (x ∷ xs) some = elim (cases_Bool (p x)) [
  | inl it_is ↦ (x, here x xs, it_is)
  | inr not_it ↦ (let rest = any_found p xs (rw not_it at some) in (rest.0, there x xs rest.0 rest.1, rest.2))
]

left_fails : (a b : Bool) → (a && b) ≡ false → b ≡ true → a ≡ false
left_fails true true is met = is
left_fails true false is met = absurd (false≢true met)
left_fails false b is met = refl

-- ---- a key in common

-- a state of the table has the key of another one, on a side and an interface to which both are bound
abbrev pub has_key_of : Side → State → State → Bool
has_key_of side s other = is_found side (key_on side s) s.rules.binding other

key_shared : (side : Side) (s a : State) → has_key_of side s a ≡ true → shares_key s a ≡ true
key_shared side s a found =
    let parts = and_parts (is_same_key (key_on side a) (key_on side s)) (meets a.rules.binding s.rules.binding) found in
    shares_side side s a (meets_turned s.rules.binding a.rules.binding ∙ parts.1) (key_turned (key_on side s) (key_on side a) ∙ parts.0)

none_shared : (s a : State) → has_key_of Wire s a ≡ false → has_key_of Stack s a ≡ false → shares_key s a ≡ false
none_shared s a wire stack = elim (cases_Bool (meets s.rules.binding a.rules.binding)) [
  | inl met ↦
      let too = meets_turned a.rules.binding s.rules.binding ∙ met in
      and_right (meets s.rules.binding a.rules.binding) (is_same_key s.wire a.wire || is_same_key s.stack a.stack) (or_from (is_same_key s.wire a.wire) (is_same_key s.stack a.stack)
      (key_turned s.wire a.wire ∙ left_fails (is_same_key a.wire s.wire) (meets a.rules.binding s.rules.binding) wire too)
      (key_turned s.stack a.stack ∙ left_fails (is_same_key a.stack s.stack) (meets a.rules.binding s.rules.binding) stack too))
  | inr apart ↦ and_left (meets s.rules.binding a.rules.binding) (is_same_key s.wire a.wire || is_same_key s.stack a.stack) apart
]

side_some : (side : Side) (s : State) (xs : List State) → list_any (has_key_of side s) xs ≡ true → list_any (shares_key s) xs ≡ true
side_some side s xs some = (let h = any_found (has_key_of side s) xs some in some_any (shares_key s) xs h.0 h.1 (key_shared side s h.0 h.2))

pub shares_wire : (s : State) (xs : List State) (r : Bool) → r ≡ list_any (has_key_of Wire s) xs → r ≡ true → r ≡ list_any (shares_key s) xs
shares_wire s xs r is some = some ∙ sym (side_some Wire s xs (sym is ∙ some))

pub shares_stack : (s : State) (xs : List State) (r q : Bool) → r ≡ list_any (has_key_of Wire s) xs → r ≡ false → q ≡ list_any (has_key_of Stack s) xs → q ≡ list_any (shares_key s) xs
shares_stack s xs r q is none also = elim (cases_Bool q) [
  | inl some ↦ some ∙ sym (side_some Stack s xs (sym also ∙ some))
  | inr neither ↦ neither ∙ sym (none_any (shares_key s) xs (λ a h. none_shared s a (none_of (has_key_of Wire s) xs a (sym is ∙ none) h) (none_of (has_key_of Stack s) xs a (sym also ∙ neither) h)))
]

-- ---- a key that a state of another number has

abbrev other_has : Side → State → State → Bool
other_has side s other = is_another s.number side (key_on side s) s.rules.binding other

other_some : (side : Side) (s : State) (xs : List State) → list_any (other_has side s) xs ≡ true → list_any (other_shares s) xs ≡ true
other_some side s xs some =
    let h = any_found (other_has side s) xs some in
    let parts = and_parts (not (is_number s.number h.0)) (has_key_of side s h.0) h.2 in
    some_any (other_shares s) xs h.0 h.1 (and_from (not (is_number s.number h.0)) (shares_key s h.0) parts.0 (key_shared side s h.0 parts.1))

other_none : (s : State) (xs : List State) → list_any (other_has Wire s) xs ≡ false → list_any (other_has Stack s) xs ≡ false → list_any (other_shares s) xs ≡ false
other_none s xs wire stack = none_any (other_shares s) xs (λ a h. elim (cases_Bool (not (is_number s.number a))) [
  | inl other ↦
      let no_wire = none_of (other_has Wire s) xs a wire h in
      let no_stack = none_of (other_has Stack s) xs a stack h in
      let on_wire : has_key_of Wire s a ≡ false = rw other at no_wire in
      let on_stack : has_key_of Stack s a ≡ false = rw other at no_stack in
      and_right (not (is_number s.number a)) (shares_key s a) (none_shared s a on_wire on_stack)
  | inr itself ↦ and_left (not (is_number s.number a)) (shares_key s a) itself
])

pub other_wire : (s : State) (xs : List State) (r : Bool) → r ≡ list_any (other_has Wire s) xs → r ≡ true → r ≡ list_any (other_shares s) xs
other_wire s xs r is some = some ∙ sym (other_some Wire s xs (sym is ∙ some))

pub other_stack : (s : State) (xs : List State) (r q : Bool) → r ≡ list_any (other_has Wire s) xs → r ≡ false → q ≡ list_any (other_has Stack s) xs → q ≡ list_any (other_shares s) xs
other_stack s xs r q is none also = elim (cases_Bool q) [
  | inl some ↦ some ∙ sym (other_some Stack s xs (sym also ∙ some))
  | inr neither ↦ neither ∙ sym (other_none s xs (sym is ∙ none) (sym also ∙ neither))
]

-- ---- the state of a number

-- if no state has a key in common, no state of another number has
pub others_free : (s : State) (xs : List State) → list_any (shares_key s) xs ≡ false → list_any (other_shares s) xs ≡ false
others_free s xs free = none_any (other_shares s) xs (λ a h. and_right (not (is_number s.number a)) (shares_key s a) (none_of (shares_key s) xs a free h))

pub number_free : (n : StateNumber) (xs : List State) → state_of n xs ≡ None → list_any (is_number n) xs ≡ false
number_free n xs none = none_any (is_number n) xs (found_none (is_number n) xs none)

pub with_is_touched : (s old : State) (xs : List State) → rise xs ≡ true → state_of s.number xs ≡ Some old → with_touched s xs ≡ with_state s xs
with_is_touched s old xs in_order there = (let h = found_there (is_number s.number) xs old there in sym (with_present s xs in_order (some_any (is_number s.number) xs old h.0 h.1)))

none_touched : (s : State) (xs : List State) → list_any (is_number s.number) xs ≡ false → xs ≡ with_touched s xs
none_touched s [] none = refl
none_touched s (x ∷ xs) none =
    let parts = or_parts (is_number s.number x) (list_any (is_number s.number) xs) none in
    rw parts.0 (ap (λ (states : List State). x ∷ states) (none_touched s xs parts.1))

pub absent_touched : (s : State) (xs : List State) → state_of s.number xs ≡ None → xs ≡ with_touched s xs
absent_touched s xs none = none_touched s xs (number_free s.number xs none)
