-- Which state is due first.
use Rattle.std.proofs.Common.{◌≡◌, ◌<◌, ◌==◌, ◌&&◌, Bool, true, false, not, nat_lt, if◌then◌else◌, ◌⊎◌, inl, inr, List, [], ◌∷◌, Some, fold, refl, sym, ap, subst, arith}
use Rattle.std.specs.List.{Contains, filter}
use Rattle.std.proofs.lemmas.Bool.{cases_Bool, or_cases, and_parts, ltb-true, eqb-true, lt-ltb, le-ltb, eq-eqb, cases_order, not-true, cases_lt}
use Rattle.pfr_track.specs.declared.state.State.{State}
use Rattle.pfr_track.specs.declared.time.Clock.{Clock}
use Rattle.pfr_states.specs.Laws.{AnswersDue}
use Rattle.pfr_states.specs.States.{due, earlier, first_of, goes_before, lives}
use Rattle.pfr_states.proofs.Membership.{from_filter, here, in_cons, in_none, there, to_filter}

-- ---- an order

abbrev pub Before : State → State → Type 0
Before a b = (a.deadline.0 < b.deadline.0) ⊎ ((a.deadline.0 ≡ b.deadline.0) × (a.number.0 < b.number.0))

pub is_before : (a b : State) → goes_before a b ≡ true → Before a b
is_before a b before = elim (or_cases (nat_lt a.deadline.0 b.deadline.0) (a.deadline.0 == b.deadline.0 && nat_lt a.number.0 b.number.0) before) [
  | inl less ↦ inl (ltb-true a.deadline.0 b.deadline.0 less)
  | inr both ↦ (let parts = and_parts (a.deadline.0 == b.deadline.0) (nat_lt a.number.0 b.number.0) both in inr (eqb-true a.deadline.0 b.deadline.0 parts.0, ltb-true a.number.0 b.number.0 parts.1))
]

pub not_before : (a b : State) → (Before a b → ⊥) → goes_before a b ≡ false
not_before a b none = elim (cases_Bool (goes_before a b)) [ inl before ↦ absurd (none (is_before a b before)) | inr other ↦ other ]

pub before_is : (a b : State) → Before a b → goes_before a b ≡ true
before_is a b (inl less) = rw (lt-ltb a.deadline.0 b.deadline.0 less) refl
before_is a b (inr both) = rw (le-ltb a.deadline.0 b.deadline.0 (omega (arith, both.0)), eq-eqb a.deadline.0 b.deadline.0 both.0, lt-ltb a.number.0 b.number.0 both.1) refl

pub no_before : (a b : State) → goes_before a b ≡ false → Before a b → ⊥
no_before a b none before = absurd (cc (before_is a b before, none))

-- the first of two states is before a third, or the second isn't
compared : (a b c : State) → Before a c → Before a b ⊎ Before b c
compared a b c before = elim (cases_order a.deadline.0 b.deadline.0) [
  | inl same ↦ elim before [
    | inl less ↦ inr (inl (omega arith))
    | inr both ↦ (let level = both.0 in let below = both.1 in elim (cases_lt a.number.0 b.number.0) [ inl less ↦ inl (inr (same, less)) | inr above ↦ inr (inr (omega arith, omega arith)) ])
  ]
  | inr (inl less) ↦ inl (inl less)
  | inr (inr more) ↦ elim before [ inl less ↦ inr (inl (omega arith)) | inr both ↦ (let level = both.0 in inr (inl (omega arith))) ]
]

asymmetric : (a b : State) → Before a b → Before b a → ⊥
asymmetric a b (inl less) (inl more) = omega arith
asymmetric a b (inl less) (inr both) = (let level = both.0 in omega arith)
asymmetric a b (inr both) (inl more) = (let level = both.0 in omega arith)
asymmetric a b (inr one) (inr other) = (let below = one.1 in let above = other.1 in omega arith)

-- ---- the first

-- of a state and others the first
record IsFirst (start : State) (states : List State) (first : State) : Type 0 where
  at : (start ≡ first) ⊎ Contains states first
  not_start : Before start first → ⊥
  none : (other : State) → Contains states other → Before other first → ⊥

-- a state that comes next takes the place of the first, or doesn't
next_by : (goes : Bool) (start x : State) (xs : List State) → goes_before x start ≡ goes → ((s : State) → (first : State) × (fold earlier (Some s) xs ≡ Some first) × IsFirst s xs first)
    → (first : State) × (fold earlier (if goes then Some x else Some start) xs ≡ Some first) × IsFirst start (x ∷ xs) first
next_by true start x xs goes found =
    let rest = found x in
    let first = rest.0 in
    let is = rest.2 in (
      first,
      rest.1,
      record {
        at = inr (elim is.at [ inl same ↦ rw (← same) (here x xs) | inr later ↦ there x xs first later ]);
        not_start = λ before. elim (compared start x first before) [ inl less ↦ asymmetric start x less (is_before x start goes) | inr below ↦ is.not_start below ];
        none = λ other h before. elim (in_cons x xs other h) [ inl same ↦ is.not_start (subst (λ (s : State). Before s first) (sym same) before) | inr later ↦ is.none other later before ];
      },
    )
next_by false start x xs goes found =
    let rest = found start in
    let first = rest.0 in
    let is = rest.2 in (
      first,
      rest.1,
      record {
        at = elim is.at [ inl same ↦ inl same | inr later ↦ inr (there x xs first later) ];
        not_start = is.not_start;
        none = λ other h before. elim (in_cons x xs other h) [
          | inl same ↦ elim (compared x start first (subst (λ (s : State). Before s first) (sym same) before)) [ inl less ↦ no_before x start goes less | inr below ↦ is.not_start below ]
          | inr later ↦ is.none other later before
        ];
      },
    )

first_from : (xs : List State) (start : State) → (first : State) × (fold earlier (Some start) xs ≡ Some first) × IsFirst start xs first
first_from [] start = (
  start,
  refl,
  record {
    at = inl refl;
    not_start = λ before. asymmetric start start before before;
    none = λ other h before. in_none other h;
  },
)
first_from (x ∷ xs) start = next_by (goes_before x start) start x xs refl (first_from xs)

-- ---- what is due

-- the first of states that are just those which are due
pub answers : (clock : Clock) (states dues : List State) → ((state : State) → Contains dues state → Contains states state × (lives clock state ≡ false)) → ((state : State) → Contains states state → lives clock state ≡ false → Contains dues state) → AnswersDue clock states (first_of dues)
answers clock states [] from to = λ state h. elim (cases_Bool (lives clock state)) [ inl alive ↦ alive | inr gone ↦ absurd (in_none state (to state h gone)) ]
answers clock states (x ∷ xs) from to =
    let found = first_from xs x in
    let first = found.0 in
    let among : Contains (x ∷ xs) first = elim found.2.at [ inl same ↦ rw (← same) (here x xs) | inr later ↦ there x xs first later ] in
    let none : (other : State) → Contains (x ∷ xs) other → Before other first → ⊥ = λ other h before. elim (in_cons x xs other h) [
      | inl same ↦ found.2.not_start (subst (λ (s : State). Before s first) (sym same) before)
      | inr later ↦ found.2.none other later before
    ] in
    rw found.1 (record {
      is_there = (from first among).0;
      is_due = (from first among).1;
      is_first = λ other h gone. not_before other first (none other (to other h gone));
    })

pub due_first : (states : List State) (clock : Clock) → AnswersDue clock states (due clock states)
due_first states clock = answers clock states (filter gone states) (λ state h. (let parts = from_filter gone states state h in (parts.0, not-true (lives clock state) parts.1))) (λ state h is_gone. to_filter gone states state h (ap not is_gone)) where
  gone : State → Bool
  gone state = not (lives clock state)
