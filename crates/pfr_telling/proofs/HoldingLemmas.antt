-- The events of a run leave the states of the table as they stand.
use Rattle.std.proofs.Common.{◌≡◌, ◌≤◌, ◌+◌, ◌==◌, ◌&&◌, ℕ, zero, suc, Bool, true, false, not, nat_lt, is_some, List, [], ◌∷◌, ◌++◌, length, map, Option, Some, None, Ok, IfSome, if◌then◌else◌, inl, inr, refl, sym, ap, ◌∙◌, subst, arith}
use Rattle.std.specs.List.{Contains, filter, flat_map, list_all, list_any}
use Rattle.std.specs.Option.{option_map}
use Rattle.std.proofs.lemmas.Bool.{cases_Bool, cond-true, eq-eqb, eqb-false, eqb-true, false≢true, ne_eqb, not-true}
use Rattle.std.proofs.lemmas.List.{append_assoc, append-nil}
use Rattle.std.proofs.lemmas.List.Elements.{All-append, All-contains, filter-append}
use Rattle.std.proofs.lemmas.List.Folds.{list_any_none}
use Rattle.pfr_track.specs.declared.state.State.{State}
use Rattle.pfr_track.specs.declared.state.StateNumber.{StateNumber}
use Rattle.pfr_track.specs.declared.time.Clock.{Clock}
use Rattle.pfr_states.specs.declared.change.TableChange.{TableChange}
use Rattle.pfr_states.specs.declared.change.TableChange.TheVariants as table
use Rattle.pfr_states.specs.States.{StateTable, due, is_number, purged, rise, state_of, with_change, with_state, with_touched}
use Rattle.pfr_states.proofs.DueOrderLemmas.{none_left, one_state_less, takes_first}
use Rattle.pfr_states.proofs.FilterLemmas.{rise_filter}
use Rattle.pfr_states.proofs.FindLemmas.{IsOne, found, found_none, found_there, one_number}
use Rattle.pfr_states.proofs.Membership.{from_filter, here, in_cons, in_none, there, to_filter}
use Rattle.pfr_states.proofs.PurgeLemmas.{first_of_due, purged_on}
use Rattle.pfr_standby.specs.declared.kept.Kept.{Kept}
use Rattle.pfr_standby.specs.Standby as standby
use Rattle.pfr_standby.proofs.HeldLemmas.{same_states}
use Rattle.pfr_sync.specs.declared.event.EventKind.{EventKind}
use Rattle.pfr_sync.specs.declared.event.EventKind.TheVariants.{Made, Touched, Removed}
use Rattle.pfr_sync.specs.declared.event.Event.{Event}
use Rattle.pfr_sync.specs.Events.{is_of}
use Rattle.pfr_sync.specs.Laws.{AreOfOne, StayOfOne, is_left, kept_by, leave_it, left, left_by}
use Rattle.pfr_sync.specs.Messages.{last_of}
use Rattle.pfr_sync.proofs.HoldingLemmas.{standby_holds}
use Rattle.pfr_sync.proofs.ToldLemmas.{last_push, none_kept}
use Rattle.pfr_telling.specs.Holding.{APacketLeavesTheStates, AStandbyHoldsTheStatesOfTheTable, IsNextOfStates, LeaveStates, standing_of, synchronised}
use Rattle.pfr_telling.specs.Standby.{Leave, StaysTold}
use Rattle.pfr_telling.specs.Telling.{AreTold, IsNextChange, changed, events_of, events_of_change, events_of_purge, events_of_removal, told}
use Rattle.pfr_telling.proofs.ChangeLemmas.{from_touched, from_with}
use Rattle.pfr_telling.proofs.HistoryLemmas.{history_none, left_made, left_same}
use Rattle.pfr_telling.proofs.StandbyLemmas.{a_packet_leaves_the_table}
use Rattle.pfr_telling.proofs.ToldLemmas.{each_of, same_number, told_is, told_of_removal}

-- ---- the state that events leave

if_some : (b : Bool) (s : State) → is_some (if b then Some s else None) ≡ b
if_some true s = refl
if_some false s = refl

some_left : (events : List Event) → is_some (left_by events) ≡ leave_it events
some_left [] = refl
some_left (first ∷ events) = if_some (leave_it (first ∷ events)) (last_of first events).state

-- a state is left exactly if its number is
left_is : (n : ℕ) (events : List Event) → is_some (left n events) ≡ is_left n events
left_is n events = some_left (filter (is_of n) events)

kept_push : (n : ℕ) (events : List Event) (e : Event) → is_of n e ≡ true → filter (is_of n) (events ++ e ∷ []) ≡ filter (is_of n) events ++ e ∷ []
kept_push n events e it_is = filter-append (is_of n) events (e ∷ []) ∙ ap (λ (more : List Event). filter (is_of n) events ++ more) (rw it_is refl)

kept_other : (n : ℕ) (events : List Event) (e : Event) → is_of n e ≡ false → filter (is_of n) (events ++ e ∷ []) ≡ filter (is_of n) events
kept_other n events e other =
    filter-append (is_of n) events (e ∷ []) ∙ ap (λ (more : List Event). filter (is_of n) events ++ more) (rw other refl) ∙ append-nil (filter (is_of n) events)

last_left : (events : List Event) (e : Event) → leave_it (events ++ e ∷ []) ≡ true → left_by (events ++ e ∷ []) ≡ Some e.state
last_left [] e lives = cond-true (leave_it (e ∷ [])) (Some e.state) None lives
last_left (b ∷ events) e lives =
    cond-true (leave_it (b ∷ (events ++ e ∷ []))) (Some (last_of b (events ++ e ∷ [])).state) None lives ∙ ap (λ (x : Event). Some x.state) (last_push b events e)

-- the last event of a state leaves it as it is there
state_of_last : (n : ℕ) (events : List Event) (e : Event) → is_of n e ≡ true → is_left n (events ++ e ∷ []) ≡ true → left n (events ++ e ∷ []) ≡ Some e.state
state_of_last n events e it_is lives =
    let pushed = kept_push n events e it_is in
    ap left_by pushed ∙ last_left (filter (is_of n) events) e (ap leave_it (sym pushed) ∙ lives)

state_of_other : (n : ℕ) (events : List Event) (e : Event) → is_of n e ≡ false → left n (events ++ e ∷ []) ≡ left n events
state_of_other n events e other = ap left_by (kept_other n events e other)

-- ---- events of one connection

same_one : (s : State) → AreOfOne s s
same_one s = record { wire = refl; stack = refl; direction = refl; rule = refl }

then_one : (a b c : State) → AreOfOne a b → AreOfOne b c → AreOfOne a c
then_one a b c one other = record {
  wire = one.wire ∙ other.wire;
  stack = one.stack ∙ other.stack;
  direction = one.direction ∙ other.direction;
  rule = one.rule ∙ other.rule;
}

last_one : (b first : Event) (events : List Event) → AreOfOne b.state first.state → ((x : Event) → Contains events x → AreOfOne b.state x.state) → AreOfOne b.state (last_of first events).state
last_one b first [] is each = is
last_one b first (x ∷ events) is each = last_one b x events (each x (here x events)) (λ y at. each y (there x events y at))

left_last : (b : Event) (events : List Event) (s : State) → left_by (b ∷ events) ≡ Some s → (last_of b events).state ≡ s
left_last b events s left =
    let lives : leave_it (b ∷ events) ≡ true = sym (some_left (b ∷ events)) ∙ ap is_some left in
    let is : Some (last_of b events).state ≡ Some s = sym (cond-true (leave_it (b ∷ events)) (Some (last_of b events).state) None lives) ∙ left in
    cc is

one_by : (events : List Event) (e : Event) (before : State) → left_by events ≡ Some before → StayOfOne events → AreOfOne before e.state → StayOfOne (events ++ e ∷ [])
one_by [] e before left one same = absurd cc
one_by (b ∷ events) e before left one same =
    let P : Event → Type 0 = λ event. AreOfOne b.state event.state in
    let last = last_one b b events (same_one b.state) (λ x at. All-contains P events x one at) in
    let on = subst (λ (s : State). AreOfOne b.state s) (left_last b events before left) last in
    All-append P events (e ∷ []) one (each_of P (e ∷ []) (λ (x : Event) at. elim (in_cons e [] x at) [
      | inl is ↦ subst P is (then_one b.state before e.state on same)
      | inr none ↦ absurd (in_none x none)
    ]))

-- one event more, of a state that is left
one_push : (events : List Event) (e : Event) (before : State) → ((n : ℕ) → StayOfOne (filter (is_of n) events)) → left e.state.number.0 events ≡ Some before → AreOfOne before e.state
    → (n : ℕ) → StayOfOne (filter (is_of n) (events ++ e ∷ []))
one_push events e before one is same n = elim (cases_Bool (is_of n e)) [
  | inl it_is ↦
      let at : left n events ≡ Some before = ap (λ (k : ℕ). left k events) (sym (eqb-true e.state.number.0 n it_is)) ∙ is in
      subst StayOfOne (sym (kept_push n events e it_is)) (one_by (filter (is_of n) events) e before at (one n) same)
  | inr other ↦ subst StayOfOne (sym (kept_other n events e other)) (one n)
]

one_alone : (e : Event) → StayOfOne (e ∷ [])
one_alone e = λ k d below. absurd (omega (arith, below))

-- the first event of a state
one_first : (events : List Event) (e : Event) → ((n : ℕ) → StayOfOne (filter (is_of n) events)) → list_any (is_of e.state.number.0) events ≡ false → (n : ℕ) → StayOfOne (filter (is_of n) (events ++ e ∷ []))
one_first events e one fresh n = elim (cases_Bool (is_of n e)) [
  | inl it_is ↦
      let none : list_any (is_of n) events ≡ false = ap (λ (k : ℕ). list_any (is_of k) events) (sym (eqb-true e.state.number.0 n it_is)) ∙ fresh in
      subst StayOfOne (sym (kept_push n events e it_is ∙ ap (λ (kept : List Event). kept ++ e ∷ []) (none_kept (is_of n) events none))) (one_alone e)
  | inr other ↦ subst StayOfOne (sym (kept_other n events e other)) (one n)
]

-- ---- the states of a table

-- The events of one number are of one connection, and they leave these states as they stand, but for those of which nothing is told.
record Stay (states : List State) (events : List Event) : Type 0 where
  of_one : (n : ℕ) → StayOfOne (filter (is_of n) events)
  as_left : (s : State) → Contains states s → s.rules.is_synchronised ≡ true → left s.number.0 events ≡ Some s

told_none : (kind : EventKind) (clock : Clock) (state : State) → state.rules.is_synchronised ≡ false → told kind clock state ≡ []
told_none kind clock state is = ap (λ (test : Bool). if test then record { kind = kind; state = state; clock = clock } ∷ [] else []) is

abbrev event : EventKind → Clock → State → Event
event kind clock state = record { kind = kind; state = state; clock = clock }

by_told : (kind : EventKind) (clock : Clock) (state : State) (states : List State) (events : List Event)
    → (state.rules.is_synchronised ≡ true → Stay states (events ++ event kind clock state ∷ []))
    → (state.rules.is_synchronised ≡ false → Stay states events)
    → Stay states (events ++ told kind clock state)
by_told kind clock state states events are_told are_not = elim (cases_Bool state.rules.is_synchronised) [
  | inl is ↦ subst (λ (more : List Event). Stay states (events ++ more)) (sym (told_is kind clock state is)) (are_told is)
  | inr is ↦ subst (λ (all : List Event). Stay states all) (sym (ap (λ (more : List Event). events ++ more) (told_none kind clock state is) ∙ append-nil events)) (are_not is)
]

abbrev is_another : StateNumber → State → Bool
is_another number state = not (is_number number state)

-- without the states of a number nothing else changes
fewer_stay : (number : StateNumber) (states : List State) (events : List Event) → Stay states events → Stay (with_change (table.Removed number) states) events
fewer_stay number states events stay = record {
  of_one = stay.of_one;
  as_left = λ s at. stay.as_left s (from_filter (is_another number) states s at).0;
}

removal_stays : (clock : Clock) (states : List State) (events : List Event) (state : State) → Contains states state → Stay states events
    → Stay (with_change (table.Removed state.number) states) (events ++ told Removed clock state)
removal_stays clock states events state is_there stay =
    let e = event Removed clock state in
    by_told Removed clock state (with_change (table.Removed state.number) states) events
    (λ is. record {
      of_one = one_push events e state stay.of_one (stay.as_left state is_there is) (same_one state);
      as_left = λ s at sync.
          let kept = from_filter (is_another state.number) states s at in
          let other : is_of s.number.0 e ≡ false = ne_eqb state.number.0 s.number.0 (λ same. absurd (eqb-false s.number.0 state.number.0 (not-true (is_number state.number s) kept.1) (sym same))) in
          state_of_other s.number.0 events e other ∙ stay.as_left s kept.0 sync;
    })
    (λ is_not. fewer_stay state.number states events stay)

-- a state with the number of the one that is touched is that one
touched_is : (touched : State) (states : List State) (s : State) → Contains (with_touched touched states) s → touched.number.0 ≡ s.number.0 → touched ≡ s
touched_is touched [] s at same = absurd (in_none s at)
touched_is touched (x ∷ states) s at same = elim (in_cons (if is_number touched.number x then touched else x) (with_touched touched states) s at) [
  | inl is ↦ elim (cases_Bool (is_number touched.number x)) [
    | inl its ↦ rw its at is
    | inr other ↦
        let first : x ≡ s = rw other at is in
        absurd (eqb-false x.number.0 touched.number.0 other (ap (λ (t : State). t.number.0) first ∙ sym same))
  ]
  | inr rest ↦ touched_is touched states s rest same
]

touch_stays : (clock : Clock) (states : List State) (events : List Event) (state before : State) → Contains states before → state.number ≡ before.number → state.rules.is_synchronised ≡ before.rules.is_synchronised → AreOfOne before state → Stay states events
    → Stay (with_touched state states) (events ++ told Touched clock state)
touch_stays clock states events state before is_there number stays same stay =
    let e = event Touched clock state in
    by_told Touched clock state (with_touched state states) events
    (λ is.
    let was : left state.number.0 events ≡ Some before = ap (λ (k : StateNumber). left k.0 events) number ∙ stay.as_left before is_there (sym stays ∙ is) in
    let lives : is_left state.number.0 events ≡ true = sym (left_is state.number.0 events) ∙ ap is_some was in
    record {
      of_one = one_push events e before stay.of_one was same;
      as_left = λ s at sync. elim (cases_Bool (is_of s.number.0 e)) [
        | inl it_is ↦
            let number_is : state.number.0 ≡ s.number.0 = eqb-true state.number.0 s.number.0 it_is in
            let lives_on : is_left s.number.0 (events ++ e ∷ []) ≡ true = left_same s.number.0 events e lives refl ∙ ap (λ (k : ℕ). is_left k events) (sym number_is) ∙ lives in
            state_of_last s.number.0 events e it_is lives_on ∙ ap (λ (t : State). Some t) (touched_is state states s at number_is)
        | inr other ↦ elim (from_touched state states s at) [
          | inl is_it ↦ absurd (eqb-false state.number.0 s.number.0 other (ap (λ (t : State). t.number.0) is_it))
          | inr old ↦ state_of_other s.number.0 events e other ∙ stay.as_left s old sync
        ]
      ];
    })
    (λ is_not. record {
      of_one = stay.of_one;
      as_left = λ s at sync. elim (from_touched state states s at) [
        | inl is_it ↦ absurd (false≢true (sym is_not ∙ ap (λ (t : State). t.rules.is_synchronised) is_it ∙ sync))
        | inr old ↦ stay.as_left s old sync
      ];
    })

making_stays : (count : ℕ) (clock : Clock) (states : List State) (events : List Event) (state : State) → AreTold count clock states events → state.number.0 ≡ count + 1 → Stay states events
    → Stay (with_state state states) (events ++ told Made clock state)
making_stays count clock states events state are number stay =
    let e = event Made clock state in
    let fresh : list_any (is_of state.number.0) events ≡ false = list_any_none (is_of state.number.0) events (each_of (λ (x : Event). is_of state.number.0 x ≡ false) events (λ x at.
    let below = All-contains (λ (x : Event). x.state.number.0 ≤ count) events x are.numbers at in
    ne_eqb x.state.number.0 state.number.0 (λ same. absurd (omega (arith, below, same, number))))) in
    by_told Made clock state (with_state state states) events
    (λ is. record {
      of_one = one_first events e stay.of_one fresh;
      as_left = λ s at sync. elim (from_with state states s at) [
        | inl same ↦ subst (λ (t : State). left t.number.0 (events ++ e ∷ []) ≡ Some t) same
            (let it_is : is_of state.number.0 e ≡ true = eq-eqb state.number.0 state.number.0 refl in
            state_of_last state.number.0 events e it_is (left_made state.number.0 events e fresh it_is refl refl))
        | inr was ↦
            let below = All-contains (λ (x : State). x.number.0 ≤ count) states s are.of_packets was in
            state_of_other s.number.0 events e (ne_eqb state.number.0 s.number.0 (λ same. absurd (omega (arith, below, same, number)))) ∙ stay.as_left s was sync
      ];
    })
    (λ is_not. record {
      of_one = stay.of_one;
      as_left = λ s at sync. elim (from_with state states s at) [
        | inl same ↦ absurd (false≢true (sym is_not ∙ ap (λ (t : State). t.rules.is_synchronised) same ∙ sync))
        | inr was ↦ stay.as_left s was sync
      ];
    })

-- ---- a packet

found_stays : (clock : Clock) (states : List State) (events : List Event) (number : StateNumber) (found : Option State) → state_of number states ≡ found → Stay states events
    → Stay (with_change (table.Removed number) states) (events ++ events_of_removal clock found)
found_stays clock states events number None is stay =
    subst (λ (all : List Event). Stay (with_change (table.Removed number) states) all) (sym (append-nil events)) (fewer_stay number states events stay)
found_stays clock states events number (Some state) is stay =
    let found = found_there (is_number number) states state is in
    subst (λ (k : StateNumber). Stay (with_change (table.Removed k) states) (events ++ told Removed clock state)) (same_number state.number number (eqb-true state.number.0 number.0 found.1))
    (removal_stays clock states events state found.0 stay)

next_stays : (count : ℕ) (clock : Clock) (states : List State) (events : List Event) (change : TableChange) → AreTold count clock states events → Stay states events → IsNextOfStates count states change
    → Stay (with_change change states) (events ++ events_of_change clock (Some change) states)
next_stays count clock states events (table.Made state) are stay next = making_stays count clock states events state are next.0 stay
next_stays count clock states events (table.Touched state) are stay next =
    let before = next.0.0 in
    touch_stays clock states events state before next.0.1 next.0.2 (next.1 before next.0.1 next.0.2) (next.2 before next.0.1 next.0.2) stay
next_stays count clock states events (table.Removed number) are stay next = found_stays clock states events number (state_of number states) refl stay

change_stays : (count : ℕ) (clock : Clock) (before : StateTable) (events : List Event) (change : Option TableChange) → AreTold count clock before.states events → Stay before.states events
    → IfSome change (λ change. IsNextOfStates count before.states change)
    → Stay (changed change before).states (events ++ events_of_change clock change before.states)
change_stays count clock before events None are stay next = subst (λ (all : List Event). Stay before.states all) (sym (append-nil events)) stay
change_stays count clock before events (Some change) are stay next = next_stays count clock before.states events change are stay next

-- both go on
abbrev Both : ℕ → Clock → List State → List Event → Type 0
Both count clock states events = AreTold count clock states events × Stay states events

purge_over : (count : ℕ) (clock : Clock) (states : List State) (events : List Event) → due clock states ≡ None → Both count clock states events → Both count clock (purged clock states) (events ++ events_of_purge clock states)
purge_over count clock states events none both =
    let over = none_left states clock none in
    subst (λ (gone : List State). Both count clock (purged clock states) (events ++ flat_map (told Removed clock) gone)) (sym over.0)
    (subst (λ (left : List State). Both count clock left (events ++ [])) (sym over.1)
    (subst (λ (all : List Event). Both count clock states all) (sym (append-nil events)) both))

purge_by : (k count : ℕ) (clock : Clock) (states : List State) (events : List Event) (first : Option State) → due clock states ≡ first → length states ≡ k → rise states ≡ true → Both count clock states events
    → Both count clock (purged clock states) (events ++ events_of_purge clock states)
purge_by k count clock states events None is long in_order both = purge_over count clock states events is both
purge_by zero count clock states events (Some state) is long in_order both = (let less = one_state_less states clock state in_order is in absurd (omega (arith, less, long)))
purge_by (suc k) count clock states events (Some state) is long in_order both =
    let rest = with_change (table.Removed state.number) states in
    let less = one_state_less states clock state in_order is in
    let is_there = (first_of_due clock states state is).is_there in
    let more = events ++ told Removed clock state in
    let step : Both count clock rest more = (told_of_removal count clock states events state both.0 is_there, removal_stays clock states events state is_there both.1) in
    let all : Both count clock (purged clock rest) (more ++ events_of_purge clock rest) = purge_by k count clock rest more (due clock rest) refl (omega (arith, less, long)) (rise_filter (is_another state.number) states in_order) step in
    let whole : more ++ events_of_purge clock rest ≡ events ++ events_of_purge clock states =
    append_assoc events (told Removed clock state) (events_of_purge clock rest)
    ∙ ap (λ (gone : List State). events ++ flat_map (told Removed clock) gone) (sym (takes_first states clock state in_order is)) in
    subst (λ (left : List State). Both count clock left (events ++ events_of_purge clock states)) (purged_on clock states state in_order is)
    (subst (λ (es : List Event). Both count clock (purged clock rest) es) whole all)

a_packet_stays : (count : ℕ) (clock : Clock) (change : Option TableChange) (before : StateTable) (events : List Event) → rise before.states ≡ true → AreTold count clock before.states events → Stay before.states events
    → IfSome change (λ change. IsNextOfStates count (purged clock before.states) change)
    → Stay (changed change (record { states = purged clock before.states; limit = before.limit })).states (events ++ events_of clock change before.states)
unfolding events_of
a_packet_stays count clock change before events in_order are stay next =
    let left = purged clock before.states in
    let both = purge_by (length before.states) count clock before.states events (due clock before.states) refl refl in_order (are, stay) in
    subst (λ (all : List Event). Stay (changed change (record { states = left; limit = before.limit })).states all)
    (append_assoc events (events_of_purge clock before.states) (events_of_change clock change left))
    (change_stays count clock (record { states = left; limit = before.limit }) (events ++ events_of_purge clock before.states) change both.0 both.1 next)

-- ---- each state that is left, by its number

abbrev tells : State → Bool
tells state = state.rules.is_synchronised

abbrev numbered : ℕ → StateNumber
numbered n = record { 0 = n }

one_told : (n : ℕ) (states : List State) → rise states ≡ true → IsOne (is_number (numbered n)) (synchronised states)
one_told n states in_order = λ a b ha hb ia ib.
    one_number states in_order a b (from_filter tells states a ha).0 (from_filter tells states b hb).0 (eqb-true a.number.0 n ia ∙ sym (eqb-true b.number.0 n ib))

-- a state of which a standby is told
told_found : (states : List State) (s : State) → rise states ≡ true → Contains states s → s.rules.is_synchronised ≡ true → state_of (numbered s.number.0) (synchronised states) ≡ Some s
told_found states s in_order at sync =
    found (is_number (numbered s.number.0)) (synchronised states) (Some s) (one_told s.number.0 states in_order) (to_filter tells states s at sync, eq-eqb s.number.0 s.number.0 refl)

-- and one of which it isn't
untold_found : (states : List State) (s : State) → rise states ≡ true → Contains states s → s.rules.is_synchronised ≡ false → state_of (numbered s.number.0) (synchronised states) ≡ None
untold_found states s in_order at is_not =
    found (is_number (numbered s.number.0)) (synchronised states) None (one_told s.number.0 states in_order) (λ a h. elim (cases_Bool (is_number (numbered s.number.0) a)) [
      | inl is ↦
          let kept = from_filter tells states a h in
          let same : a ≡ s = one_number states in_order a s kept.0 at (eqb-true a.number.0 s.number.0 is) in
          absurd (false≢true (sym is_not ∙ ap tells (sym same) ∙ kept.1))
      | inr other ↦ other
    ])

stay_of : (states : List State) (events : List Event) → rise states ≡ true → LeaveStates states events → Stay states events
stay_of states events in_order leave = record {
  of_one = leave.history.of_one;
  as_left = λ s at sync. leave.states_are s.number.0 ∙ told_found states s in_order at sync;
}

some_is : (r : Option State) → is_some r ≡ true → (s : State) × (r ≡ Some s)
some_is None is = absurd (false≢true is)
some_is (Some s) is = (s, refl)

none_is : (r : Option State) → is_some r ≡ false → r ≡ None
none_is None is = refl
none_is (Some s) is = absurd (false≢true (sym is))

leave_of : (states : List State) (events : List Event) → rise states ≡ true → LeaveStates states events → Leave states events
leave_of states events in_order leave = record {
  history = leave.history.history;
  of_states = λ s at.
      sym (left_is s.number.0 events) ∙ ap is_some (leave.states_are s.number.0)
      ∙ elim (cases_Bool s.rules.is_synchronised) [
        | inl sync ↦ ap is_some (told_found states s in_order at sync) ∙ sym sync
        | inr is_not ↦ ap is_some (untold_found states s in_order at is_not) ∙ sym is_not
      ];
  no_other = λ n lives.
      let some = some_is (state_of (numbered n) (synchronised states)) (ap is_some (sym (leave.states_are n)) ∙ left_is n events ∙ lives) in
      let there = found_there (is_number (numbered n)) (synchronised states) some.0 some.1 in
      (some.0, (from_filter tells states some.0 there.0).0, eqb-true some.0.number.0 n there.1);
}

left_found : (states : List State) (events : List Event) (n : ℕ) (r : Option State) → state_of (numbered n) (synchronised states) ≡ r → Leave states events → Stay states events → left n events ≡ r
left_found states events n None is leave stay = elim (cases_Bool (is_left n events)) [
  | inl lives ↦
      let other = leave.no_other n lives in
      let sync : other.0.rules.is_synchronised ≡ true = sym (leave.of_states other.0 other.1) ∙ ap (λ (k : ℕ). is_left k events) other.2 ∙ lives in
      let none = found_none (is_number (numbered n)) (synchronised states) is other.0 (to_filter tells states other.0 other.1 sync) in
      absurd (eqb-false other.0.number.0 n none other.2)
  | inr gone ↦ none_is (left n events) (left_is n events ∙ gone)
]
left_found states events n (Some s) is leave stay =
    let found = found_there (is_number (numbered n)) (synchronised states) s is in
    let kept = from_filter tells states s found.0 in
    ap (λ (k : ℕ). left k events) (sym (eqb-true s.number.0 n found.1)) ∙ stay.as_left s kept.0 kept.1

states_leave : (states : List State) (events : List Event) → Leave states events → Stay states events → LeaveStates states events
states_leave states events leave stay = record {
  history = record { history = leave.history; of_one = stay.of_one };
  states_are = λ n. left_found states events n (state_of (numbered n) (synchronised states)) refl leave stay;
}

both_next : (count : ℕ) (states : List State) (change : Option TableChange) → IfSome change (λ change. IsNextOfStates count states change) → IfSome change (λ change. IsNextChange count states change × StaysTold states change)
both_next count states None next = tt
both_next count states (Some change) next = (next.0, next.1)

pub no_states_are_left : LeaveStates [] []
no_states_are_left = record { history = record { history = history_none; of_one = λ n. tt }; states_are = λ n. refl }

pub a_packet_leaves_the_states : APacketLeavesTheStates
a_packet_leaves_the_states count clock change before events in_order are leave next =
    let left = purged clock before.states in
    let after = (changed change (record { states = left; limit = before.limit })).states in
    states_leave after (events ++ events_of clock change before.states)
    (a_packet_leaves_the_table count clock change before events in_order are (leave_of before.states events in_order leave) (both_next count left change next))
    (a_packet_stays count clock change before events in_order are (stay_of before.states events in_order leave) next)

-- ---- what is held

abbrev entry : State → ℕ × Kept
entry state = (state.number.0, kept_by state)

above_held : (n : ℕ) (states : List State)
    → list_all (λ (other : State). nat_lt n other.number.0) states ≡ list_all (λ (held : ℕ × Kept). nat_lt n held.0) (map entry states)
above_held n [] = refl
above_held n (s ∷ states) = ap (λ (rest : Bool). nat_lt n s.number.0 && rest) (above_held n states)

rise_held : (states : List State) → rise states ≡ standby.rises (map entry states)
rise_held [] = refl
rise_held (s ∷ states) =
    ap (λ (above : Bool). above && rise states) (above_held s.number.0 states)
    ∙ ap (λ (rest : Bool). list_all (λ (held : ℕ × Kept). nat_lt s.number.0 held.0) (map entry states) && rest) (rise_held states)

held_at : (n : ℕ) (states : List State) → option_map kept_by (state_of (numbered n) states) ≡ standby.state_of n (map entry states)
held_at n [] = refl
held_at n (s ∷ states) = elim (cases_Bool (s.number.0 == n)) [
  | inl is ↦ rw is refl
  | inr other ↦ rw other (held_at n states)
]

pub a_standby_holds_the_states_of_the_table : AStandbyHoldsTheStatesOfTheTable
a_standby_holds_the_states_of_the_table origin states events in_order leave =
    let held = standby_holds origin events leave.history in
    let are = synchronised states in
    let same : held.0 ≡ standing_of states =
    same_states held.0 (standing_of states) held.2 (sym (rise_held are) ∙ rise_filter tells states in_order)
    (λ n. held.3 n ∙ ap (option_map kept_by) (leave.states_are n) ∙ held_at n are) in
    held.1 ∙ ap Ok same
