-- Which state is due first, and whether one of a rule is due, by the deadlines by which states wait.
use Rattle.std.proofs.Common.{◌≡◌, ◌≤◌, ◌&&◌, ◌||◌, ◌∙◌, ◌⊎◌, ℕ, Bool, true, false, not, nat_le, nat_lt, fold, List, [], ◌∷◌, Option, Some, None, sym, refl, ap, subst, inl, inr, arith}
use Rattle.std.specs.List.{All, AllByRecursion, Contains, FoldsTo, filter, list_any}
use Rattle.std.specs.List.Sorted.{IsPermutation}
use Rattle.std.proofs.lemmas.Bool.{and_parts, both_ways, cases_Bool, eq-eqb, eqb-true, le-ltb, leb-false, leb-true, lt-ltb, le-leb, ltb-false, ltb-true, not-true}
use Rattle.std.proofs.lemmas.List.Elements.{All-contains}
use Rattle.std.proofs.lemmas.List.Sorted.{Contains-permutation}
use Rattle.pfr_places.specs.Places.{at, have_own_places, is_at, value_of, with_placed, with_value, without as without_placed}
use Rattle.pfr_places.specs.declared.place.Place.{Place}
use Rattle.pfr_track.specs.declared.state.State.{State}
use Rattle.pfr_track.specs.declared.state.StateNumber.{StateNumber}
use Rattle.pfr_track.specs.declared.time.Clock.{Clock}
use Rattle.pfr_track.specs.declared.time.Deadline.{Deadline}
use Rattle.pfr_states.specs.declared.stored.Stored.{Stored}
use Rattle.pfr_states.specs.Awaited.{AreAwaited, IsAwaited, due_by, due_if_kept, first_by as first_by_waits, is_kept_at, is_kept_by, is_some_of_rule, kept_by, sooner, wait_of, waits_by}
use Rattle.pfr_states.specs.Keyed.{held, states_of}
use Rattle.pfr_states.specs.Laws.{AnswersDue, IsFirstDue}
use Rattle.pfr_states.specs.States.{due, earlier, first_of, is_of_rule, lives, rise}
use Rattle.pfr_deadlines.specs.Waits.{IsBefore, IsFrom, IsPutOff, Wait, come_at}
use Rattle.pfr_deadlines.proofs.OrderLemmas.{not_less, not_under}
use Rattle.pfr_states.proofs.DueLemmas.{Before, due_first, answers, not_before}
use Rattle.pfr_states.proofs.FindLemmas.{found_there, none_any, some_any}
use Rattle.pfr_states.proofs.IndexedLemmas.{kept}
use Rattle.pfr_states.proofs.KeyedLemmas.{Held, from_states, in_states, in_with, itself}
use Rattle.pfr_states.proofs.KeyedChanges.{in_value, in_without, with}
use Rattle.pfr_states.proofs.Membership.{from_filter, here, in_cons, in_none, none_of, some_of, there, to_filter}
use Rattle.pfr_states.proofs.QuestionLemmas.{first_by, none_by, none_is_due}

pub each : {X : Type 0} (P : X → Type 0) (xs : List X) → AllByRecursion P xs → (x : X) → Contains xs x → P x
each P [] all x h = absurd (in_none x h)
each P (y ∷ ys) all x h = elim (in_cons y ys x h) [ inl is ↦ subst P is all.0 | inr rest ↦ each P ys all.1 x rest ]

-- ---- what is due

module _ (clock : Clock) (all : List Held) (waits : List Wait) (awaited : AreAwaited waits all) where
  pub none_come : (bound : ℕ) → All (IsFrom bound) waits → nat_lt clock.0 bound ≡ true → None ≡ due clock (states_of all)
  none_come bound from ahead = none_is_due clock (states_of all) (λ s h.
      let q = from_states all s h in
      let is = awaited q.0 q.1 in
      let low = All-contains (IsFrom bound) waits (wait_of q.0) from is.there in
      let early = is.early in
      let same : q.0.value.state.deadline.0 ≡ s.deadline.0 = ap (λ (t : State). t.deadline.0) q.2 in
      let late = ltb-true clock.0 bound ahead in
      lt-ltb clock.0 s.deadline.0 (omega (arith, low, early, same, late)))

  pub first_lives : (first : Wait) → AllByRecursion (IsBefore first) waits → nat_le first.0.0 clock.0 ≡ false → None ≡ due clock (states_of all)
  first_lives first before alive = none_is_due clock (states_of all) (λ s h.
      let q = from_states all s h in
      let is = awaited q.0 q.1 in
      let low = not_less first (wait_of q.0) (each (IsBefore first) waits before (wait_of q.0) is.there) in
      let early = is.early in
      let same : q.0.value.state.deadline.0 ≡ s.deadline.0 = ap (λ (t : State). t.deadline.0) q.2 in
      let late = leb-false first.0.0 clock.0 alive in
      lt-ltb clock.0 s.deadline.0 (omega (arith, low, early, same, late)))

  -- a state with the first deadline, which has come
  pub first_is_due : (first : Wait) (p : Held) → rise (states_of all) ≡ true → AllByRecursion (IsBefore first) waits → nat_le first.0.0 clock.0 ≡ true → Contains all p → p.value.state.deadline.0 ≡ first.0.0 → p.value.state.number.0 ≡ first.1.0 → Some p.value.state ≡ due clock (states_of all)
  first_is_due first p in_order before come h level number = sym (first_by (states_of all) clock p.value.state (due clock (states_of all)) in_order is_first (due_first (states_of all) clock)) where
    none_before : (s : State) → Contains (states_of all) s → Before s p.value.state → ⊥
    none_before s inside (inl less) =
        let q = from_states all s inside in
        let is = awaited q.0 q.1 in
        let low = not_less first (wait_of q.0) (each (IsBefore first) waits before (wait_of q.0) is.there) in
        let early = is.early in
        let same : q.0.value.state.deadline.0 ≡ s.deadline.0 = ap (λ (t : State). t.deadline.0) q.2 in
        omega (arith, low, early, same, level, less)
    none_before s inside (inr both) =
        let q = from_states all s inside in
        let is = awaited q.0 q.1 in
        let first_before = each (IsBefore first) waits before (wait_of q.0) is.there in
        let low = not_less first (wait_of q.0) first_before in
        let early = is.early in
        let same : q.0.value.state.deadline.0 ≡ s.deadline.0 = ap (λ (t : State). t.deadline.0) q.2 in
        let as_number : q.0.value.state.number.0 ≡ s.number.0 = ap (λ (t : State). t.number.0) q.2 in
        let same_deadline = both.0 in
        let under = both.1 in
        let at_first : q.0.value.waits.0 ≡ first.0.0 = omega (arith, low, early, same, level, same_deadline) in
        let above = not_under first (wait_of q.0) first_before at_first in
        omega (arith, above, as_number, under, number)

    is_first : IsFirstDue clock (states_of all) p.value.state
    is_first = record {
      is_there = in_states all p h;
      is_due = (let past = leb-true first.0.0 clock.0 come in le-ltb clock.0 p.value.state.deadline.0 (omega (arith, past, level)));
      is_first = λ s inside gone. not_before s p.value.state (none_before s inside);
    }

-- ---- the first of all

abbrev listed : Option State → List State → List State
listed None states = states
listed (Some state) states = state ∷ states

abbrev dues : Clock → List Held → List Wait → List State
dues clock all [] = []
dues clock all (wait ∷ waits) = listed (due_by clock all wait) (dues clock all waits)

sooner_listed : (first r : Option State) (states : List State) → fold earlier (sooner first r) states ≡ fold earlier first (listed r states)
sooner_listed first None states = refl
sooner_listed first (Some s) states = refl

fold_dues : (clock : Clock) (all : List Held) (first : Option State) (waits : List Wait) → fold (λ first wait. sooner first (due_by clock all wait)) first waits ≡ fold earlier first (dues clock all waits)
fold_dues clock all first [] = refl
fold_dues clock all first (wait ∷ waits) = fold_dues clock all (sooner first (due_by clock all wait)) waits ∙ sooner_listed first (due_by clock all wait) (dues clock all waits)

-- each of the listed states is due
kept_from : (clock : Clock) (all : List Held) (wait : Wait) (r : Option Held) (s : State) → at wait.2 all ≡ r → due_if_kept clock wait (value_of r) ≡ Some s → Contains (states_of all) s × (lives clock s ≡ false)
kept_from clock all wait None s is gives = absurd cc
kept_from clock all wait (Some p) s is gives = elim (cases_Bool (waits_by wait p.value && not (lives clock p.value.state))) [
  | inl it_is ↦
      let same : p.value.state ≡ s = ap (λ (r : Option State). or_self r p.value.state) (rw it_is at gives) in
      let gone = not-true (lives clock p.value.state) (and_parts (waits_by wait p.value) (not (lives clock p.value.state)) it_is).1 in
      subst (λ (t : State). Contains (states_of all) t × (lives clock t ≡ false)) same (in_states all p (found_there (is_at wait.2) all p is).0, gone)
  | inr other ↦ (let none : None ≡ Some s = rw other at gives in absurd cc)
] where
  or_self : Option State → State → State
  or_self None t = t
  or_self (Some s) t = s

due_from : (clock : Clock) (all : List Held) (wait : Wait) (s : State) → due_by clock all wait ≡ Some s → Contains (states_of all) s × (lives clock s ≡ false)
due_from clock all wait s is = kept_from clock all wait (at wait.2 all) s refl is

from_listed : (r : Option State) (states : List State) (s : State) → Contains (listed r states) s → (r ≡ Some s) ⊎ Contains states s
from_listed None states s h = inr h
from_listed (Some t) states s h = elim (in_cons t states s h) [ inl is ↦ inl (ap Some is) | inr rest ↦ inr rest ]

from_dues : (clock : Clock) (all : List Held) (waits : List Wait) (s : State) → Contains (dues clock all waits) s → Contains (states_of all) s × (lives clock s ≡ false)
from_dues clock all [] s h = absurd (in_none s h)
from_dues clock all (wait ∷ waits) s h = elim (from_listed (due_by clock all wait) (dues clock all waits) s h) [ inl is ↦ due_from clock all wait s is | inr rest ↦ from_dues clock all waits s rest ]

-- each state that is due is listed
to_listed : (r : Option State) (states : List State) (s : State) → (r ≡ Some s) ⊎ Contains states s → Contains (listed r states) s
to_listed None states s (inl is) = absurd cc
to_listed None states s (inr rest) = rest
to_listed (Some t) states s (inl is) = subst (λ (r : Option State). Contains (listed r states) s) (sym is) (here s states)
to_listed (Some t) states s (inr rest) = there t states s rest

to_dues : (clock : Clock) (all : List Held) (waits : List Wait) (wait : Wait) (s : State) → due_by clock all wait ≡ Some s → Contains waits wait → Contains (dues clock all waits) s
to_dues clock all [] wait s is h = absurd (in_none wait h)
to_dues clock all (w ∷ waits) wait s is h = to_listed (due_by clock all w) (dues clock all waits) s (elim (in_cons w waits wait h) [ inl same ↦ inl (ap (due_by clock all) same ∙ is) | inr rest ↦ inr (to_dues clock all waits wait s is rest) ])

own_wait : (q : Held) → waits_by (wait_of q) q.value ≡ true
own_wait q = rw (eq-eqb q.value.waits.0 q.value.waits.0 refl, eq-eqb q.value.state.number.0 q.value.state.number.0 refl) refl

due_of : (clock : Clock) (all : List Held) → have_own_places all ≡ true → (q : Held) → Contains all q → lives clock q.value.state ≡ false → due_by clock all (wait_of q) ≡ Some q.value.state
due_of clock all own q h gone =
    rw (itself all own q h, own_wait q, gone) refl

-- and the deadline by which it waits has come
come_too : (clock : Clock) (all : List Held) (waits : List Wait) → AreAwaited waits all → (q : Held) → Contains all q → lives clock q.value.state ≡ false → Contains (come_at clock waits) (wait_of q)
come_too clock all waits awaited q h gone =
    let is = awaited q h in
    let early = is.early in
    let past = ltb-false clock.0 q.value.state.deadline.0 gone in
    to_filter (λ (wait : Wait). nat_le wait.0.0 clock.0) waits (wait_of q) is.there (le-leb q.value.waits.0 clock.0 (omega (arith, early, past)))

pub first_of_all : (clock : Clock) (all : List Held) (waits : List Wait) → AreAwaited waits all → have_own_places all ≡ true → rise (states_of all) ≡ true → first_by_waits clock all (come_at clock waits) ≡ due clock (states_of all)
first_of_all clock all waits awaited own in_order = fold_dues clock all None (come_at clock waits) ∙ same (first_of (dues clock all (come_at clock waits))) (due clock (states_of all)) is_answer (due_first (states_of all) clock) where
  is_answer : AnswersDue clock (states_of all) (first_of (dues clock all (come_at clock waits)))
  is_answer = answers clock (states_of all) (dues clock all (come_at clock waits)) (from_dues clock all (come_at clock waits)) (λ s h gone.
      let q = from_states all s h in
      let listed_there = to_dues clock all (come_at clock waits) (wait_of q.0) q.0.value.state (due_of clock all own q.0 q.1 (ap (lives clock) q.2 ∙ gone)) (come_too clock all waits awaited q.0 q.1 (ap (lives clock) q.2 ∙ gone)) in
      subst (λ (t : State). Contains (dues clock all (come_at clock waits)) t) q.2 listed_there)

  same : (r t : Option State) → AnswersDue clock (states_of all) r → AnswersDue clock (states_of all) t → r ≡ t
  same r None answer other = sym (none_by clock (states_of all) r other answer)
  same r (Some s) answer other = first_by (states_of all) clock s r in_order other answer

-- the states that are gone through, by reference, come to this
pub gone_through : {B : Type 0} (R : B → Wait → B → Type 0) (seen : B → Option State) (clock : Clock) (all : List Held) → ((before : B) (wait : Wait) (after : B) → R before wait after → seen after ≡ sooner (seen before) (due_by clock all wait))
    → (start last : B) (waits : List Wait) → FoldsTo R start waits last → seen last ≡ fold (λ first wait. sooner first (due_by clock all wait)) (seen start) waits
gone_through R seen clock all steps start last [] so = ap seen (sym so)
gone_through R seen clock all steps start last (wait ∷ waits) so =
    gone_through R seen clock all steps so.0 last waits so.2 ∙ ap (λ (first : Option State). fold (λ first wait. sooner first (due_by clock all wait)) first waits) (steps start wait so.0 so.1)

-- ---- whether one of a rule is due

of_state : (rule : ℕ) (r : Option State) → is_some_of_rule rule r ≡ true → (s : State) × (r ≡ Some s) × (is_of_rule rule s ≡ true)
of_state rule None some = absurd cc
of_state rule (Some s) some = (s, refl, some)

pub rule_is_due : (rule : ℕ) (clock : Clock) (all : List Held) (waits : List Wait) → AreAwaited waits all → have_own_places all ≡ true
    → list_any (λ wait. is_some_of_rule rule (due_by clock all wait)) (come_at clock waits) ≡ list_any (λ state. not (lives clock state)) (filter (is_of_rule rule) (states_of all))
rule_is_due rule clock all waits awaited own = elim (cases_Bool (list_any of_wait (come_at clock waits))) [
  | inl some ↦
      let wait = some_of of_wait (come_at clock waits) some in
      let state = of_state rule (due_by clock all wait.0) wait.2 in
      let gone = due_from clock all wait.0 state.0 state.1 in
      some ∙ sym (some_any gone_by (filter (is_of_rule rule) (states_of all)) state.0 (to_filter (is_of_rule rule) (states_of all) state.0 gone.0 state.2) (ap not gone.1))
  | inr none ↦ none ∙ sym (none_any gone_by (filter (is_of_rule rule) (states_of all)) (λ s h. elim (cases_Bool (lives clock s)) [
    | inl alive ↦ ap not alive
    | inr gone ↦
        let parts = from_filter (is_of_rule rule) (states_of all) s h in
        let q = from_states all s parts.0 in
        let it_goes = ap (lives clock) q.2 ∙ gone in
        let waits_so : of_wait (wait_of q.0) ≡ true = ap (is_some_of_rule rule) (due_of clock all own q.0 q.1 it_goes) ∙ ap (is_of_rule rule) q.2 ∙ parts.1 in
        absurd (both_ways (of_wait (wait_of q.0)) (none_of of_wait (come_at clock waits) (wait_of q.0) none (come_too clock all waits awaited q.0 q.1 it_goes)) waits_so)
  ]))
] where
  of_wait : Wait → Bool
  of_wait wait = is_some_of_rule rule (due_by clock all wait)

  gone_by : State → Bool
  gone_by state = not (lives clock state)

or_none : (a : Bool) → a ≡ (a || false)
or_none true = refl
or_none false = refl

or_more : (a b c : Bool) → ((a || b) || c) ≡ (a || (b || c))
or_more true b c = refl
or_more false b c = refl

-- a test of each wait, one after the other, comes to this
pub any_gone_through : (R : Bool → Wait → Bool → Type 0) (test : Wait → Bool) → ((before : Bool) (wait : Wait) (after : Bool) → R before wait after → after ≡ (before || test wait))
    → (start last : Bool) (waits : List Wait) → FoldsTo R start waits last → last ≡ (start || list_any test waits)
any_gone_through R test steps start last [] so = sym so ∙ or_none start
any_gone_through R test steps start last (wait ∷ waits) so =
    any_gone_through R test steps so.0 last waits so.2 ∙ ap (λ (before : Bool). before || list_any test waits) (steps start wait so.0 so.1) ∙ or_more start (test wait) (list_any test waits)

-- ---- after a change

pub awaited_more : (all : List Held) (waits after : List Wait) (stored : Stored) (place : Place) → AreAwaited waits all → stored.waits ≡ stored.state.deadline → IsPermutation (wait_of (held stored place) ∷ waits) after → AreAwaited after (with_placed (held stored place) all)
awaited_more all waits after stored place awaited own now q h = elim (in_with (held stored place) all q h) [
  | inl is ↦ subst (λ (r : Held). IsAwaited after r) is (record {
    there = Contains-permutation (wait_of (held stored place) ∷ waits) after (wait_of (held stored place)) now (here (wait_of (held stored place)) waits);
    early = (let level : stored.waits.0 ≡ stored.state.deadline.0 = ap (λ (d : Deadline). d.0) own in omega (arith, level));
  })
  | inr old ↦ (let is = awaited q old in record { there = Contains-permutation (wait_of (held stored place) ∷ waits) after (wait_of q) now (there (wait_of (held stored place)) waits (wait_of q) is.there); early = is.early })
]

pub awaited_less : (n : ℕ) (all : List Held) (waits : List Wait) → AreAwaited waits all → AreAwaited waits (without_placed n all)
awaited_less n all waits awaited q h = awaited q (in_without n all q h)

-- another value at a place, which waits by a deadline that is there
pub awaited_other : (all : List Held) (waits after : List Wait) (place : Place) (stored : Stored) (p : Held) → have_own_places all ≡ true → at place all ≡ Some p → AreAwaited waits all
    → IsAwaited after (with p stored) → ((q : Held) → Contains all q → is_at place q ≡ false → Contains waits (wait_of q) → Contains after (wait_of q)) → AreAwaited after (with_value place stored all)
awaited_other all waits after place stored p own is awaited new kept q h = elim (in_value place stored all p own is q h) [
  | inl same ↦ subst (λ (r : Held). IsAwaited after r) same new
  | inr old ↦ (let before = awaited q old.0 in record { there = kept q old.0 old.1 before.there; early = before.early })
]

-- the first deadline goes which is no state's, or one that stands at another place
pub still_there : (first w : Wait) (waits rest : List Wait) → IsPermutation waits (first ∷ rest) → Contains waits w → (first ≡ w → ⊥) → Contains rest w
still_there first w waits rest now h other = elim (in_cons first rest w (Contains-permutation waits (first ∷ rest) w now h)) [ inl is ↦ absurd (other is) | inr later ↦ later ]

pub awaited_dropped : (all : List Held) (first : Wait) (waits rest : List Wait) → AreAwaited waits all → have_own_places all ≡ true → is_kept_by first (value_of (at first.2 all)) ≡ false → IsPermutation waits (first ∷ rest) → AreAwaited rest all
awaited_dropped all first waits rest awaited own none now q h =
    let is = awaited q h in
    record {
      there = still_there first (wait_of q) waits rest now is.there (λ same. both_ways (is_kept_by first (value_of (at first.2 all))) none (subst (λ (w : Wait). is_kept_by w (value_of (at w.2 all)) ≡ true) (sym same) (ap (is_kept_by (wait_of q)) (itself all own q h) ∙ own_wait q)));
      early = is.early;
    }

-- the state that waits by the first deadline waits by its own
pub awaited_put_off : (all : List Held) (first : Wait) (waits after : List Wait) (stored : Stored) → have_own_places all ≡ true → AreAwaited waits all → kept_by first (value_of (at first.2 all)) ≡ Some stored → IsPutOff first stored.state.deadline waits after
    → AreAwaited after (with_value first.2 (record { state = stored.state; waits = stored.state.deadline }) all)
awaited_put_off all first waits after stored own awaited is moved =
    let it = kept all first stored is in
    let new : Stored = record { state = stored.state; waits = stored.state.deadline } in
    awaited_other all waits after first.2 new it.placed own it.there awaited
    (record {
      there = subst (λ (w : Wait). Contains after w) (waits_equal stored.state.deadline first.1 stored.state.number first.2 it.placed.place (sym it.number) (sym it.at_place)) (Contains-permutation ((stored.state.deadline, first.1, first.2) ∷ moved.rest) after (stored.state.deadline, first.1, first.2) moved.after (here (stored.state.deadline, first.1, first.2) moved.rest));
      early = omega arith;
    })
    (λ q h other inside. Contains-permutation ((stored.state.deadline, first.1, first.2) ∷ moved.rest) after (wait_of q) moved.after
    (there (stored.state.deadline, first.1, first.2) moved.rest (wait_of q) (still_there first (wait_of q) waits moved.rest moved.before inside (λ same. both_ways (is_at first.2 q) other (eq-eqb q.place.0 first.2.0 (sym (ap (λ (w : Wait). w.2.0) same))))))) where
      number_by : ℕ → StateNumber
      number_by n = record { 0 = n }

      place_by : ℕ → Place
      place_by n = record { 0 = n }

      wait_by : Deadline → StateNumber → Place → Wait
      wait_by d n p = (d, n, p)

      waits_equal : (d : Deadline) (n m : StateNumber) (p q : Place) → n.0 ≡ m.0 → p.0 ≡ q.0 → ◌≡◌ {A = Wait} (d, n, p) (d, m, q)
      waits_equal d n m p q same level = ap (λ (k : ℕ). wait_by d (number_by k) p) same ∙ ap (λ (k : ℕ). wait_by d m (place_by k)) level

-- the deadlines only move
pub awaited_moved : (all : List Held) (waits after : List Wait) → AreAwaited waits all → IsPermutation waits after → AreAwaited after all
awaited_moved all waits after awaited now q h = (let is = awaited q h in record { there = Contains-permutation waits after (wait_of q) now is.there; early = is.early })

-- each deadline by which a state waits is still there
pub awaited_kept : (all : List Held) (waits after : List Wait) → have_own_places all ≡ true → AreAwaited waits all → ((wait : Wait) → Contains waits wait → is_kept_at wait all ≡ true → Contains after wait) → AreAwaited after all
awaited_kept all waits after own awaited kept q h =
    let is = awaited q h in
    record { there = kept (wait_of q) is.there (ap (is_kept_by (wait_of q)) (itself all own q h) ∙ own_wait q); early = is.early }

-- a value at a place, which waits by a deadline that is added
pub awaited_written : (all : List Held) (waits after : List Wait) (place : Place) (stored : Stored) (p : Held) → have_own_places all ≡ true → at place all ≡ Some p → AreAwaited waits all → stored.waits ≡ stored.state.deadline → IsPermutation ((stored.waits, stored.state.number, place) ∷ waits) after
    → AreAwaited after (with_value place stored all)
awaited_written all waits after place stored p own is awaited early now =
    let there_is = found_there (is_at place) all p is in
    let wait : Wait = (stored.waits, stored.state.number, place) in
    awaited_other all waits after place stored p own is awaited
    (record {
      there = subst (λ (q : Place). Contains after (wait_by stored q)) (ap (λ (n : ℕ). place_by n) (sym (eqb-true p.place.0 place.0 there_is.1))) (Contains-permutation (wait ∷ waits) after wait now (here wait waits));
      early = (let level : stored.waits.0 ≡ stored.state.deadline.0 = ap (λ (d : Deadline). d.0) early in omega (arith, level));
    })
    (λ q h other inside. Contains-permutation (wait ∷ waits) after (wait_of q) now (there wait waits (wait_of q) inside)) where
      place_by : ℕ → Place
      place_by n = record { 0 = n }

      wait_by : Stored → Place → Wait
      wait_by s q = (s.waits, s.state.number, q)

-- a value at a place, which waits as the one before
pub awaited_renewed : (all : List Held) (waits : List Wait) (place : Place) (stored : Stored) (p : Held) → have_own_places all ≡ true → at place all ≡ Some p → AreAwaited waits all → stored.waits ≡ p.value.waits → stored.state.number.0 ≡ p.value.state.number.0 → stored.waits.0 ≤ stored.state.deadline.0
    → AreAwaited waits (with_value place stored all)
awaited_renewed all waits place stored p own is awaited same number early =
    let there_is = found_there (is_at place) all p is in
    awaited_other all waits waits place stored p own is awaited
    (record {
      there = subst (λ (d : Deadline). Contains waits (d, stored.state.number, p.place)) (sym same) (subst (λ (n : StateNumber). Contains waits (p.value.waits, n, p.place)) (ap (λ (k : ℕ). number_by k) (sym number)) (awaited p there_is.0).there);
      early = early;
    })
    (λ q h other inside. inside) where
      number_by : ℕ → StateNumber
      number_by n = record { 0 = n }
