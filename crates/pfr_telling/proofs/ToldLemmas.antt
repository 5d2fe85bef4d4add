-- What events say of packets, clocks and states, and what may come next.
use Rattle.std.proofs.Common.{◌≡◌, ◌≤◌, ◌+◌, ℕ, Bool, true, false, not, List, [], ◌∷◌, ◌++◌, Option, Some, None, IfSome, if◌then◌else◌, inl, inr, refl, sym, ap, ◌∙◌, arith}
use Rattle.std.specs.List.{All, Contains}
use Rattle.std.proofs.lemmas.Bool.{cases_Bool, eq-eqb, eqb-true, false≢true}
use Rattle.std.proofs.lemmas.List.{append-nil}
use Rattle.std.proofs.lemmas.List.Elements.{All-append, All-cons, All-contains, All-filter, Contains-append_cases}
use Rattle.pfr_track.specs.declared.state.State.{State}
use Rattle.pfr_track.specs.declared.state.StateNumber.{StateNumber}
use Rattle.pfr_track.specs.declared.time.Clock.{Clock}
use Rattle.pfr_states.specs.declared.change.TableChange.{TableChange}
use Rattle.pfr_states.specs.declared.change.TableChange.TheVariants as table
use Rattle.pfr_states.specs.States.{StateTable, is_number, state_of, with_change, with_state, with_touched}
use Rattle.pfr_states.proofs.FindLemmas.{found_there}
use Rattle.pfr_states.proofs.Membership.{from_filter, here, in_cons, in_none, there}
use Rattle.pfr_sync.specs.declared.event.EventKind.{EventKind}
use Rattle.pfr_sync.specs.declared.event.EventKind.TheVariants.{Made, Touched, Removed}
use Rattle.pfr_sync.specs.declared.event.Event.{Event}
use Rattle.pfr_sync.specs.Events.{MayCome, is_made, is_of, is_removed}
use Rattle.pfr_telling.specs.Telling.{AreTold, IsNextChange, changed, events_of_change, events_of_removal, told}
use Rattle.pfr_telling.proofs.ChangeLemmas.{from_touched, from_with}

-- a fact of each element
pub each_of : {X : Type 0} (P : X → Type 0) (xs : List X) → ((x : X) → Contains xs x → P x) → All P xs
each_of P [] h = λ k d below. absurd (omega (arith, below))
each_of P (x ∷ xs) h = All-cons P x xs (h x (here x xs)) (each_of P xs (λ y at. h y (there x xs y at)))

abbrev IsWithin : ℕ → State → Type 0
IsWithin count state = state.number.0 ≤ count

abbrev IsToldWithin : ℕ → Event → Type 0
IsToldWithin count event = event.state.number.0 ≤ count

abbrev IsBy : Clock → Event → Type 0
IsBy clock event = event.clock.0 ≤ clock.0

-- ---- what may come

abbrev Allows : Event → Event → Type 0
Allows event before = is_of event.state.number.0 before ≡ true → (is_removed before ≡ false) × (is_made event ≡ false)

-- of a state that is there
pub may_come : (count : ℕ) (clock : Clock) (states : List State) (events : List Event) (event : Event) (before : State) → AreTold count clock states events → Contains states before → event.state.number ≡ before.number → is_made event ≡ false
    → MayCome events event
may_come count clock states events event before are is_there number not_made =
    each_of (Allows event) events (λ (e : Event) at is. (
      elim (cases_Bool (is_removed e)) [
        | inl gone ↦ absurd (are.gone e before at is_there gone (eqb-true e.state.number.0 event.state.number.0 is ∙ ap (λ (n : StateNumber). n.0) number))
        | inr there_still ↦ there_still
      ],
      not_made,
    ))

-- of a state that the next packet makes
pub made_may_come : (count : ℕ) (clock : Clock) (states : List State) (events : List Event) (event : Event) → AreTold count clock states events → event.state.number.0 ≡ count + 1 → MayCome events event
made_may_come count clock states events event are number =
    each_of (Allows event) events (λ (e : Event) at is.
    let below = All-contains (IsToldWithin count) events e are.numbers at in
    let same = eqb-true e.state.number.0 event.state.number.0 is in
    absurd (omega (arith, below, same, number)))

-- ---- what is told

one_at_most : (test : Bool) (x e : Event) → Contains (if test then x ∷ [] else []) e → e ≡ x
one_at_most true x e at = elim (in_cons x [] e at) [ inl same ↦ sym same | inr none ↦ absurd (in_none e none) ]
one_at_most false x e at = absurd (in_none e at)

pub what_is_told : (kind : EventKind) (clock : Clock) (state : State) (e : Event) → Contains (told kind clock state) e → e ≡ record { kind = kind; state = state; clock = clock }
what_is_told kind clock state e at = one_at_most state.rules.is_synchronised (record { kind = kind; state = state; clock = clock }) e at

pub told_is : (kind : EventKind) (clock : Clock) (state : State) → state.rules.is_synchronised ≡ true → told kind clock state ≡ record { kind = kind; state = state; clock = clock } ∷ []
told_is kind clock state is = ap (λ (test : Bool). if test then record { kind = kind; state = state; clock = clock } ∷ [] else []) is

-- ---- one event more

numbers_more : (count : ℕ) (kind : EventKind) (clock : Clock) (state : State) (events : List Event) → state.number.0 ≤ count → All (λ event. event.state.number.0 ≤ count) events → All (λ event. event.state.number.0 ≤ count) (events ++ told kind clock state)
numbers_more count kind clock state events below all =
    All-append (IsToldWithin count) events (told kind clock state) all
    (each_of (IsToldWithin count) (told kind clock state) (λ (e : Event) at. rw (what_is_told kind clock state e at) below))

clocks_more : (kind : EventKind) (clock : Clock) (state : State) (events : List Event) → All (λ event. event.clock.0 ≤ clock.0) events → All (λ event. event.clock.0 ≤ clock.0) (events ++ told kind clock state)
clocks_more kind clock state events all =
    All-append (IsBy clock) events (told kind clock state) all
    (each_of (IsBy clock) (told kind clock state) (λ (e : Event) at. rw (what_is_told kind clock state e at) (omega arith)))

pub told_of_removal : (count : ℕ) (clock : Clock) (states : List State) (events : List Event) (state : State) → AreTold count clock states events → Contains states state
    → AreTold count clock (with_change (table.Removed state.number) states) (events ++ told Removed clock state)
told_of_removal count clock states events state are is_there = record {
  of_packets = All-filter (λ (s : State). not (is_number state.number s)) (IsWithin count) states are.of_packets;
  numbers = numbers_more count Removed clock state events (All-contains (IsWithin count) states state are.of_packets is_there) are.numbers;
  clocks = clocks_more Removed clock state events are.clocks;
  gone = λ event s told_at at removed same.
      let left = from_filter (λ (s : State). not (is_number state.number s)) states s at in
      elim (Contains-append_cases events (told Removed clock state) event told_at) [
        | inl before ↦ are.gone event s before left.0 removed same
        | inr now ↦ absurd (false≢true (rw (eq-eqb s.number.0 state.number.0 (sym same ∙ ap (λ (e : Event). e.state.number.0) (what_is_told Removed clock state event now))) at left.1))
      ];
}

pub told_of_touch : (count : ℕ) (clock : Clock) (states : List State) (events : List Event) (state before : State) → AreTold count clock states events → Contains states before → state.number ≡ before.number
    → AreTold count clock (with_touched state states) (events ++ told Touched clock state)
told_of_touch count clock states events state before are is_there number =
    let below : state.number.0 ≤ count = rw number (All-contains (IsWithin count) states before are.of_packets is_there) in
    record {
      of_packets = each_of (IsWithin count) (with_touched state states) (λ (s : State) at. elim (from_touched state states s at) [
        | inl is ↦ rw (← is) below
        | inr was ↦ All-contains (IsWithin count) states s are.of_packets was
      ]);
      numbers = numbers_more count Touched clock state events below are.numbers;
      clocks = clocks_more Touched clock state events are.clocks;
      gone = λ event s told_at at removed same. elim (Contains-append_cases events (told Touched clock state) event told_at) [
        | inl told_before ↦ elim (from_touched state states s at) [
          | inl is ↦ are.gone event before told_before is_there removed (same ∙ ap (λ (s : State). s.number.0) (sym is) ∙ ap (λ (n : StateNumber). n.0) number)
          | inr was ↦ are.gone event s told_before was removed same
        ]
        | inr now ↦ absurd (false≢true (sym (ap is_removed (what_is_told Touched clock state event now)) ∙ removed))
      ];
    }

pub told_of_making : (count : ℕ) (clock : Clock) (states : List State) (events : List Event) (state : State) → AreTold count clock states events → state.number.0 ≡ count + 1
    → AreTold (count + 1) clock (with_state state states) (events ++ told Made clock state)
told_of_making count clock states events state are number =
    let below : state.number.0 ≤ count + 1 = omega (arith, number) in
    record {
      of_packets = each_of (IsWithin (count + 1)) (with_state state states) (λ (s : State) at. elim (from_with state states s at) [
        | inl is ↦ rw (← is) below
        | inr was ↦ (let of = All-contains (IsWithin count) states s are.of_packets was in omega (arith, of))
      ]);
      numbers = numbers_more (count + 1) Made clock state events below (each_of (IsToldWithin (count + 1)) events (λ (e : Event) at. let of = All-contains (IsToldWithin count) events e are.numbers at in omega (arith, of)));
      clocks = clocks_more Made clock state events are.clocks;
      gone = λ event s told_at at removed same. elim (Contains-append_cases events (told Made clock state) event told_at) [
        | inl told_before ↦ elim (from_with state states s at) [
          | inl is ↦
              (let of = All-contains (IsToldWithin count) events event are.numbers told_before in
              let made = ap (λ (s : State). s.number.0) is in
              absurd (omega (arith, of, made, same, number)))
          | inr was ↦ are.gone event s told_before was removed same
        ]
        | inr now ↦ absurd (false≢true (sym (ap is_removed (what_is_told Made clock state event now)) ∙ removed))
      ];
    }

-- one packet more
pub told_after_one : (count : ℕ) (clock : Clock) (states : List State) (events : List Event) → AreTold count clock states events → AreTold (count + 1) clock states events
told_after_one count clock states events are = record {
  of_packets = each_of (IsWithin (count + 1)) states (λ (s : State) at. let of = All-contains (IsWithin count) states s are.of_packets at in omega (arith, of));
  numbers = each_of (IsToldWithin (count + 1)) events (λ (e : Event) at. let of = All-contains (IsToldWithin count) events e are.numbers at in omega (arith, of));
  clocks = are.clocks;
  gone = are.gone;
}

-- a later clock
pub told_by_then : (count : ℕ) (clock later : Clock) (states : List State) (events : List Event) → clock.0 ≤ later.0 → AreTold count clock states events → AreTold count later states events
told_by_then count clock later states events is_later are = record {
  of_packets = are.of_packets;
  numbers = are.numbers;
  clocks = each_of (IsBy later) events (λ (e : Event) at. let of = All-contains (IsBy clock) events e are.clocks at in omega (arith, of, is_later));
  gone = are.gone;
}

-- ---- a packet's change

pub same_number : (a b : StateNumber) → a.0 ≡ b.0 → a ≡ b
same_number a b is = ap (λ (n : ℕ). record { 0 = n }) is

-- no state has it
none_removed : (count : ℕ) (clock : Clock) (states : List State) (events : List Event) (number : StateNumber) → AreTold count clock states events → AreTold count clock (with_change (table.Removed number) states) (events ++ [])
none_removed count clock states events number are = rw (append-nil events) (record {
  of_packets = All-filter (λ (s : State). not (is_number number s)) (IsWithin count) states are.of_packets;
  numbers = are.numbers;
  clocks = are.clocks;
  gone = λ event s told_at at. are.gone event s told_at (from_filter (λ (s : State). not (is_number number s)) states s at).0;
})

removed_one : (count : ℕ) (clock : Clock) (states : List State) (events : List Event) (number : StateNumber) (found : Option State) → state_of number states ≡ found → AreTold count clock states events
    → AreTold count clock (with_change (table.Removed number) states) (events ++ events_of_removal clock found)
removed_one count clock states events number None is are = none_removed count clock states events number are
removed_one count clock states events number (Some state) is are =
    let found = found_there (is_number number) states state is in
    rw (← (same_number state.number number (eqb-true state.number.0 number.0 found.1))) (told_of_removal count clock states events state are found.0)

-- one change
next_told : (count : ℕ) (clock : Clock) (states : List State) (events : List Event) (change : TableChange) → AreTold count clock states events → IsNextChange count states change
    → AreTold (count + 1) clock (with_change change states) (events ++ events_of_change clock (Some change) states)
next_told count clock states events (table.Made state) are next = told_of_making count clock states events state are next
next_told count clock states events (table.Touched state) are next =
    told_after_one count clock (with_touched state states) (events ++ told Touched clock state) (told_of_touch count clock states events state next.0 are next.1 next.2)
next_told count clock states events (table.Removed number) are next =
    told_after_one count clock (with_change (table.Removed number) states) (events ++ events_of_removal clock (state_of number states)) (removed_one count clock states events number (state_of number states) refl are)

pub told_of_change : (count : ℕ) (clock : Clock) (before : StateTable) (events : List Event) (change : Option TableChange) → AreTold count clock before.states events → IfSome change (λ change. IsNextChange count before.states change)
    → AreTold (count + 1) clock (changed change before).states (events ++ events_of_change clock change before.states)
told_of_change count clock before events None are next = rw (append-nil events) (told_after_one count clock before.states events are)
told_of_change count clock before events (Some change) are next = next_told count clock before.states events change are next

-- the removal of a state that is found by its number
pub removal_may_come : (count : ℕ) (clock : Clock) (states : List State) (events : List Event) (number : StateNumber) (state : State) → AreTold count clock states events → state_of number states ≡ Some state
    → MayCome events (record { kind = Removed; state = state; clock = clock })
removal_may_come count clock states events number state are is =
    may_come count clock states events (record { kind = Removed; state = state; clock = clock }) state are (found_there (is_number number) states state is).0 refl refl
