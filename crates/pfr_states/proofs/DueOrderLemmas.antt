-- The states that are due, one after the other.
use Rattle.std.proofs.Common.{◌≡◌, ◌<◌, ◌∙◌, suc, Bool, true, false, not, ◌⊎◌, inl, inr, List, [], ◌∷◌, length, Option, Some, None, refl, sym, ap, subst, arith}
use Rattle.std.specs.List.{Contains, filter}
use Rattle.std.proofs.lemmas.Bool.{and_parts, cases_Bool, cases_order, eq-eqb, ltb-true, ne_eqb, not-true}
use Rattle.pfr_track.specs.declared.state.State.{State}
use Rattle.pfr_track.specs.declared.state.StateNumber.{StateNumber}
use Rattle.pfr_track.specs.declared.time.Clock.{Clock}
use Rattle.pfr_states.specs.declared.change.TableChange.TheVariants.{Removed}
use Rattle.pfr_states.specs.Laws.{AnswersDue}
use Rattle.pfr_states.specs.States.{IsTable, StateTable, all_due, are_above, due, goes_before, in_due_order, is_number, lives, purged, rise, with_change, with_due}
use Rattle.pfr_states.proofs.DueLemmas.{before_is, due_first, no_before}
use Rattle.pfr_states.proofs.FilterLemmas.{rise_filter, table_filter}
use Rattle.pfr_states.proofs.FindLemmas.{above_all, all_without, none_above, without}
use Rattle.pfr_states.proofs.Membership.{from_filter, here, in_cons, in_none, there, to_filter}
use Rattle.pfr_states.proofs.PurgeLemmas.{first_of_due, purged_off}

-- ---- filters

-- of two filters either may be the first
pub filters_turned : {X : Type 0} (p q : X → Bool) (xs : List X) → filter p (filter q xs) ≡ filter q (filter p xs)
filters_turned p q [] = refl
filters_turned p q (x ∷ xs) =
    let rest = filters_turned p q xs in
    elim (cases_Bool (p x)) [
      | inl passes ↦ elim (cases_Bool (q x)) [ inl kept ↦ rw (passes, kept, passes) (ap (λ xs. x ∷ xs) rest) | inr gone ↦ rw (passes, gone) rest ]
      | inr fails ↦ elim (cases_Bool (q x)) [ inl kept ↦ rw (fails, kept, fails) rest | inr gone ↦ rw (fails, gone) rest ]
    ]

-- what a filter keeps where nothing passes
pub none_kept : {X : Type 0} (q : X → Bool) (xs : List X) → ((x : X) → Contains xs x → q x ≡ false) → filter q xs ≡ []
none_kept q [] none = refl
none_kept q (x ∷ xs) none = rw (none x (here x xs)) (none_kept q xs (λ y h. none y (there x xs y h)))

-- ---- without one of the states

above_first : (x a : State) (xs : List State) → are_above x xs ≡ true → Contains xs a → x.number.0 < a.number.0
above_first x a xs above h = ltb-true x.number.0 a.number.0 (above_all x.number x a xs above h)

without_first : (x : State) (xs : List State) → are_above x xs ≡ true → without x.number (x ∷ xs) ≡ xs
without_first x xs above = rw (eq-eqb x.number.0 x.number.0 refl) (all_without x.number xs (none_above x.number x xs refl above))

without_is_rest : (x a : State) (xs : List State) → x ≡ a → are_above x xs ≡ true → without a.number (x ∷ xs) ≡ xs
without_is_rest x a xs same above = subst (λ (s : State). without s.number (x ∷ xs) ≡ xs) same (without_first x xs above)

without_later : (x a : State) (xs : List State) → are_above x xs ≡ true → Contains xs a → without a.number (x ∷ xs) ≡ x ∷ without a.number xs
without_later x a xs above h = (let over = above_first x a xs above h in rw (ne_eqb x.number.0 a.number.0 (λ same. absurd (omega arith))) refl)

-- states of rising numbers without one of them are one less
pub less_by_one : (xs : List State) (a : State) → rise xs ≡ true → Contains xs a → suc (length (without a.number xs)) ≡ length xs
less_by_one [] a in_order h = absurd (in_none a h)
less_by_one (x ∷ xs) a in_order h =
    let parts = and_parts (are_above x xs) (rise xs) in_order in
    elim (in_cons x xs a h) [
      | inl same ↦ ap (λ (ys : List State). suc (length ys)) (without_is_rest x a xs same parts.0)
      | inr rest ↦ ap (λ (ys : List State). suc (length ys)) (without_later x a xs parts.0 rest) ∙ ap suc (less_by_one xs a parts.1 rest)
    ]

-- ---- the order

with_due_first : (a b : State) (xs : List State) → goes_before a b ≡ true → with_due a (b ∷ xs) ≡ a ∷ b ∷ xs
with_due_first a b xs goes = rw goes refl

with_due_later : (a b : State) (xs : List State) → goes_before a b ≡ false → with_due a (b ∷ xs) ≡ b ∷ with_due a xs
with_due_later a b xs goes = rw goes refl

from_due : (a : State) (xs : List State) (b : State) → Contains (with_due a xs) b → (a ≡ b) ⊎ Contains xs b
from_due a [] b h = in_cons a [] b h
from_due a (x ∷ xs) b h = elim (cases_Bool (goes_before a x)) [
  | inl goes ↦ in_cons a (x ∷ xs) b (subst (λ (ys : List State). Contains ys b) (with_due_first a x xs goes) h)
  | inr not_so ↦ elim (in_cons x (with_due a xs) b (subst (λ (ys : List State). Contains ys b) (with_due_later a x xs not_so) h)) [
    | inl same ↦ inr (subst (λ (s : State). Contains (x ∷ xs) s) same (here x xs))
    | inr rest ↦ elim (from_due a xs b rest) [ inl same ↦ inl same | inr later ↦ inr (there x xs b later) ]
  ]
]

-- the states in the order in which they are due are the same states
pub from_order : (xs : List State) (b : State) → Contains (in_due_order xs) b → Contains xs b
from_order [] b h = h
from_order (x ∷ xs) b h = elim (from_due x (in_due_order xs) b h) [
  | inl same ↦ subst (λ (s : State). Contains (x ∷ xs) s) same (here x xs)
  | inr rest ↦ there x xs b (from_order xs b rest)
]

-- of two states of different numbers one goes before the other
pub goes_or_not : (a b : State) → goes_before b a ≡ false → (a.number.0 ≡ b.number.0 → ⊥) → goes_before a b ≡ true
goes_or_not a b none differ = before_is a b (elim (cases_order a.deadline.0 b.deadline.0) [
  | inl same ↦ elim (cases_order a.number.0 b.number.0) [
    | inl equal ↦ absurd (differ equal)
    | inr (inl less) ↦ inr (same, less)
    | inr (inr more) ↦ absurd (no_before b a none (inr (sym same, more)))
  ]
  | inr (inl less) ↦ inl less
  | inr (inr more) ↦ absurd (no_before b a none (inl more))
])

-- a state that goes before all others stands first
before_all : (a : State) (xs : List State) → ((b : State) → Contains xs b → goes_before a b ≡ true) → with_due a xs ≡ a ∷ xs
before_all a [] goes = refl
before_all a (x ∷ xs) goes = with_due_first a x xs (goes x (here x xs))

first_of_all : (x : State) (xs : List State) → are_above x xs ≡ true → ((b : State) → Contains xs b → goes_before b x ≡ false) → with_due x (in_due_order xs) ≡ x ∷ in_due_order xs
first_of_all x xs above none = before_all x (in_due_order xs) (λ b inside. (let over = above_first x b xs above (from_order xs b inside) in goes_or_not x b (none b (from_order xs b inside)) (λ equal. omega arith)))

-- the one before which none goes stands first in the order, and the others follow in theirs
pub first_in_order : (xs : List State) (a : State) → rise xs ≡ true → Contains xs a → ((b : State) → Contains xs b → goes_before b a ≡ false) → in_due_order xs ≡ a ∷ in_due_order (without a.number xs)
first_in_order [] a in_order h none = absurd (in_none a h)
first_in_order (x ∷ xs) a in_order h none =
    let parts = and_parts (are_above x xs) (rise xs) in_order in
    elim (in_cons x xs a h) [
      | inl same ↦
          first_of_all x xs parts.0 (λ b inside. subst (λ (s : State). goes_before b s ≡ false) (sym same) (none b (there x xs b inside)))
          ∙ ap (λ (s : State). s ∷ in_due_order xs) same ∙ ap (λ (ys : List State). a ∷ in_due_order ys) (sym (without_is_rest x a xs same parts.0))
      | inr rest ↦
          ap (with_due x) (first_in_order xs a parts.1 rest (λ b inside. none b (there x xs b inside)))
          ∙ with_due_later x a (in_due_order (without a.number xs)) (none x (here x xs)) ∙ ap (λ (ys : List State). a ∷ in_due_order ys) (sym (without_later x a xs parts.0 rest))
    ]

-- ---- what is due

pub takes_first : (states : List State) (clock : Clock) (state : State) → rise states ≡ true → due clock states ≡ Some state → all_due clock states ≡ state ∷ all_due clock (with_change (Removed state.number) states)
takes_first states clock state in_order is =
    let first = first_of_due clock states state is in
    let gone : State → Bool = λ state. not (lives clock state) in
    let none : (b : State) → Contains (filter gone states) b → goes_before b state ≡ false = λ b inside. (let parts = from_filter gone states b inside in first.is_first b parts.0 (not-true (lives clock b) parts.1)) in
    first_in_order (filter gone states) state (rise_filter gone states in_order) (to_filter gone states state first.is_there (ap not first.is_due)) none
    ∙ ap (λ (ys : List State). state ∷ in_due_order ys) (filters_turned (λ other. not (is_number state.number other)) gone states)

pub one_state_less : (states : List State) (clock : Clock) (state : State) → rise states ≡ true → due clock states ≡ Some state → suc (length (with_change (Removed state.number) states)) ≡ length states
one_state_less states clock state in_order is = less_by_one states state in_order (first_of_due clock states state is).is_there

pub removal_leaves_table : (table : StateTable) (number : StateNumber) → IsTable table → IsTable (record { states = with_change (Removed number) table.states; limit = table.limit })
removal_leaves_table table number is_table = table_filter (λ state. not (is_number number state)) table.states table.limit is_table

all_live : (clock : Clock) (states : List State) → due clock states ≡ None → (state : State) → Contains states state → lives clock state ≡ true
all_live clock states is = subst (λ (r : Option State). AnswersDue clock states r) is (due_first states clock)

pub none_left : (states : List State) (clock : Clock) → due clock states ≡ None → (all_due clock states ≡ []) × (purged clock states ≡ states)
none_left states clock is =
    (ap in_due_order (none_kept (λ state. not (lives clock state)) states (λ state h. ap not (all_live clock states is state h))), purged_off clock states is)
