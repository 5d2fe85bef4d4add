-- What is found in a list of states of which one at most passes a test.
use Rattle.std.proofs.Common.{◌≡◌, ◌≤◌, Bool, true, false, not, nat_lt, List, [], ◌∷◌, Option, Some, None, sym, refl, ap, ◌∙◌, subst, inl, inr, arith}
use Rattle.std.specs.List.{Contains, filter, find, list_all, list_any}
use Rattle.std.proofs.lemmas.Bool.{and_parts, both_ways, cases_Bool, cases_order, cond-false, cond-true, eq-eqb, lt-ltb, ltb-true, ne_eqb, or_from, or_parts, true≢false}
use Rattle.pfr_track.specs.declared.state.State.{State}
use Rattle.pfr_track.specs.declared.state.StateNumber.{StateNumber}
use Rattle.pfr_states.specs.Indexed.{IsAnswer}
use Rattle.pfr_states.specs.States.{are_above, is_number, rise, with_state, with_touched}
use Rattle.pfr_states.proofs.Membership.{from_filter, here, in_cons, in_none, none_of, there}
use Rattle.pfr_states.proofs.PutLemmas.{with_behind, with_over}
use Rattle.pfr_states.proofs.TouchLemmas.{untouched}

-- ---- what an answer says

-- at most one passes
abbrev pub IsOne : {X : Type 0} → (X → Bool) → List X → Type 0
IsOne {X} p xs = (a b : X) → Contains xs a → Contains xs b → p a ≡ true → p b ≡ true → a ≡ b

answer_behind : {X : Type 0} (p : X → Bool) (x : X) (xs : List X) (r : Option X) → p x ≡ false → IsAnswer p xs r → IsAnswer p (x ∷ xs) r
answer_behind p x xs None not_it none = λ a h. elim (in_cons x xs a h) [ inl is ↦ ap p (sym is) ∙ not_it | inr rest ↦ none a rest ]
answer_behind p x xs (Some y) not_it found = (there x xs y found.0, found.1)

pub answer : {X : Type 0} (p : X → Bool) (xs : List X) → IsAnswer p xs (find p xs)
answer p [] = λ a h. absurd (in_none a h)
answer {X} p (x ∷ xs) = elim (cases_Bool (p x)) [
  | inl it_is ↦ subst (λ (r : Option X). IsAnswer p (x ∷ xs) r) (sym (cond-true (p x) (Some x) (find p xs) it_is)) (here x xs, it_is)
  | inr not_it ↦ subst (λ (r : Option X). IsAnswer p (x ∷ xs) r) (sym (cond-false (p x) (Some x) (find p xs) not_it)) (answer_behind p x xs (find p xs) not_it (answer p xs))
]

same_answer : {X : Type 0} (p : X → Bool) (xs : List X) (r t : Option X) → IsOne p xs → IsAnswer p xs r → IsAnswer p xs t → r ≡ t
same_answer p xs None None one a b = refl
same_answer p xs None (Some y) one a b = absurd (both_ways (p y) (a y b.0) b.1)
same_answer p xs (Some x) None one a b = absurd (both_ways (p x) (b x a.0) a.1)
same_answer p xs (Some x) (Some y) one a b = ap Some (one x y a.0 b.0 a.1 b.1)

pub found : {X : Type 0} (p : X → Bool) (xs : List X) (r : Option X) → IsOne p xs → IsAnswer p xs r → find p xs ≡ r
found p xs r one a = same_answer p xs (find p xs) r one (answer p xs) a

-- if none passes
pub none_found : {X : Type 0} (p : X → Bool) (xs : List X) → ((a : X) → Contains xs a → p a ≡ false) → find p xs ≡ None
none_found {X} p xs none = by (find p xs) (answer p xs) where
  by : (r : Option X) → IsAnswer p xs r → r ≡ None
  by None so = refl
  by (Some x) so = absurd (both_ways (p x) (none x so.0) so.1)

-- if this one alone passes
pub found_only : {X : Type 0} (p : X → Bool) (xs : List X) (a : X) → Contains xs a → p a ≡ true → ((b : X) → Contains xs b → p b ≡ true → a ≡ b) → find p xs ≡ Some a
found_only {X} p xs a h is only = by (find p xs) (answer p xs) where
  by : (r : Option X) → IsAnswer p xs r → r ≡ Some a
  by None so = absurd (both_ways (p a) (so a h) is)
  by (Some x) so = ap Some (sym (only x so.0 so.1))

-- what is found, is there
pub found_there : {X : Type 0} (p : X → Bool) (xs : List X) (x : X) → find p xs ≡ Some x → Contains xs x × (p x ≡ true)
found_there {X} p xs x is = subst (λ (r : Option X). IsAnswer p xs r) is (answer p xs)

pub found_none : {X : Type 0} (p : X → Bool) (xs : List X) → find p xs ≡ None → (a : X) → Contains xs a → p a ≡ false
found_none {X} p xs is = subst (λ (r : Option X). IsAnswer p xs r) is (answer p xs)

pub none_any : {X : Type 0} (p : X → Bool) (xs : List X) → ((a : X) → Contains xs a → p a ≡ false) → list_any p xs ≡ false
none_any p [] none = refl
none_any p (x ∷ xs) none = or_from (p x) (list_any p xs) (none x (here x xs)) (none_any p xs (λ a h. none a (there x xs a h)))

pub some_any : {X : Type 0} (p : X → Bool) (xs : List X) (a : X) → Contains xs a → p a ≡ true → list_any p xs ≡ true
some_any p xs a h it_is = elim (cases_Bool (list_any p xs)) [ inl some ↦ some | inr none ↦ absurd (both_ways (p a) (none_of p xs a none h) it_is) ]

-- ---- numbers

pub above_all : (n : StateNumber) (x a : State) (xs : List State) → list_all (λ (other : State). nat_lt n.0 other.number.0) xs ≡ true → Contains xs a → nat_lt n.0 a.number.0 ≡ true
above_all n x a [] all h = absurd (in_none a h)
above_all n x a (y ∷ ys) all h =
    let parts = and_parts (nat_lt n.0 y.number.0) (list_all (λ (other : State). nat_lt n.0 other.number.0) ys) all in
    elim (in_cons y ys a h) [ inl is ↦ ap (λ (s : State). nat_lt n.0 s.number.0) (sym is) ∙ parts.0 | inr rest ↦ above_all n x a ys parts.1 rest ]

pub one_number : (xs : List State) → rise xs ≡ true → (a b : State) → Contains xs a → Contains xs b → a.number.0 ≡ b.number.0 → a ≡ b
one_number [] in_order a b ha hb same = absurd (in_none a ha)
one_number (x ∷ xs) in_order a b ha hb same =
    let parts = and_parts (are_above x xs) (rise xs) in_order in
    elim (in_cons x xs a ha) [
      | inl is_a ↦ elim (in_cons x xs b hb) [
        | inl is_b ↦ sym is_a ∙ is_b
        | inr rest_b ↦ (let above = ltb-true x.number.0 b.number.0 (above_all x.number x b xs parts.0 rest_b) in let first : x.number.0 ≡ a.number.0 = ap (λ (s : State). s.number.0) is_a in absurd (omega arith))
      ]
      | inr rest_a ↦ elim (in_cons x xs b hb) [
        | inl is_b ↦ (let above = ltb-true x.number.0 a.number.0 (above_all x.number x a xs parts.0 rest_a) in let first : x.number.0 ≡ b.number.0 = ap (λ (s : State). s.number.0) is_b in absurd (omega arith))
        | inr rest_b ↦ one_number xs parts.1 a b rest_a rest_b same
      ]
    ]

-- what is found has the least number of those that pass
pub found_least : (p : State → Bool) (xs : List State) (x : State) → rise xs ≡ true → find p xs ≡ Some x → (a : State) → Contains xs a → p a ≡ true → x.number.0 ≤ a.number.0
found_least p [] x in_order is a h passes = absurd (in_none a h)
found_least p (y ∷ ys) x in_order is a h passes =
    let parts = and_parts (are_above y ys) (rise ys) in_order in
    elim (cases_Bool (p y)) [
      | inl it_is ↦
          let same : y ≡ x = ap (λ (r : Option State). or_self r y) (rw it_is at is) in
          let level : y.number.0 ≡ x.number.0 = ap (λ (s : State). s.number.0) same in
          elim (in_cons y ys a h) [
            | inl is_a ↦ (let equal : y.number.0 ≡ a.number.0 = ap (λ (s : State). s.number.0) is_a in omega arith)
            | inr rest ↦ (let above = ltb-true y.number.0 a.number.0 (above_all y.number y a ys parts.0 rest) in omega arith)
          ]
      | inr other ↦ elim (in_cons y ys a h) [
        | inl is_a ↦ absurd (both_ways (p y) other (ap p is_a ∙ passes))
        | inr rest ↦ found_least p ys x parts.1 (rw other at is) a rest passes
      ]
    ] where
      or_self : Option State → State → State
      or_self None s = s
      or_self (Some t) s = t

-- ---- without a state

pub one_filter : {X : Type 0} (p q : X → Bool) (xs : List X) → IsOne p xs → IsOne p (filter q xs)
one_filter p q xs one = λ a b ha hb. one a b (from_filter q xs a ha).0 (from_filter q xs b hb).0

abbrev pub without : StateNumber → List State → List State
without number states = filter (λ state. not (is_number number state)) states

is_gone : (n : StateNumber) (x : State) → x.number.0 ≡ n.0 → not (is_number n x) ≡ false
is_gone n x same = ap not (eq-eqb x.number.0 n.0 same)

pub none_without : (n : StateNumber) (xs : List State) → list_any (is_number n) (without n xs) ≡ false
none_without n xs = none_any (is_number n) (without n xs) (λ a h. elim (cases_Bool (is_number n a)) [
  | inl is ↦ absurd (both_ways (not (is_number n a)) (ap not is) (from_filter (λ state. not (is_number n state)) xs a h).1)
  | inr other ↦ other
])

-- if no state has the number
pub all_without : (n : StateNumber) (xs : List State) → list_any (is_number n) xs ≡ false → without n xs ≡ xs
all_without n [] none = refl
all_without n (x ∷ xs) none =
    let parts = or_parts (is_number n x) (list_any (is_number n) xs) none in
    rw parts.0 (ap (λ (states : List State). x ∷ states) (all_without n xs parts.1))

-- ---- with a state

-- ---- with a state in the place of the one of its number

pub none_above : (n : StateNumber) (x : State) (xs : List State) → n.0 ≡ x.number.0 → list_all (λ (other : State). nat_lt x.number.0 other.number.0) xs ≡ true → list_any (is_number n) xs ≡ false
none_above n x xs is above = none_any (is_number n) xs (λ a h. (let over = ltb-true x.number.0 a.number.0 (above_all x.number x a xs above h) in ne_eqb a.number.0 n.0 (λ same. absurd (omega arith))))

abbrev pub IsPresent : State → List State → Type 0
IsPresent s xs = list_any (is_number s.number) xs ≡ true

none_over : (s x : State) (xs : List State) → nat_lt s.number.0 x.number.0 ≡ true → are_above x xs ≡ true → list_any (is_number s.number) (x ∷ xs) ≡ false
none_over s x xs before above = none_any (is_number s.number) (x ∷ xs) (λ a h. (let under = ltb-true s.number.0 x.number.0 before in elim (in_cons x xs a h) [
  | inl is ↦ (let same : x.number.0 ≡ a.number.0 = ap (λ (t : State). t.number.0) is in ne_eqb a.number.0 s.number.0 (λ equal. absurd (omega arith)))
  | inr rest ↦ (let over = ltb-true x.number.0 a.number.0 (above_all x.number x a xs above rest) in ne_eqb a.number.0 s.number.0 (λ equal. absurd (omega arith)))
]))

pub with_present : (s : State) (xs : List State) → rise xs ≡ true → IsPresent s xs → with_state s xs ≡ with_touched s xs
with_present s [] in_order some = absurd (true≢false (sym some))
with_present s (x ∷ xs) in_order some =
    let parts = and_parts (are_above x xs) (rise xs) in_order in
    elim (cases_order x.number.0 s.number.0) [
      | inl same ↦ with_over s x xs same ∙ sym (rw (eq-eqb x.number.0 s.number.0 same, untouched x.number.0 s xs same parts.0) refl)
      | inr (inl behind) ↦
          let other : is_number s.number x ≡ false = ne_eqb x.number.0 s.number.0 (λ same. absurd (omega arith)) in
          with_behind s x xs behind ∙ (rw other (ap (λ (states : List State). x ∷ states) (with_present s xs parts.1 (rw other at some))))
      | inr (inr before) ↦ absurd (both_ways (list_any (is_number s.number) (x ∷ xs)) (none_over s x xs (lt-ltb s.number.0 x.number.0 before) parts.0) some)
    ]
