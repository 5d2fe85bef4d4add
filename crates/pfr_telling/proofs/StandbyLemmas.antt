-- The events of a run leave the states of the table.
use Rattle.std.proofs.Common.{◌≡◌, ◌≤◌, ◌+◌, ◌==◌, ◌&&◌, ℕ, zero, suc, Bool, true, false, not, nat_lt, List, [], ◌∷◌, ◌++◌, length, Option, Some, None, IfSome, if◌then◌else◌, inl, inr, refl, sym, ap, ◌∙◌, subst, arith}
use Rattle.std.specs.List.{Contains, flat_map, list_any}
use Rattle.std.proofs.lemmas.Bool.{and_from, cases_Bool, eq-eqb, eqb-false, eqb-true, false≢true, ne_eqb, not-true}
use Rattle.std.proofs.lemmas.List.{append_assoc, append-nil}
use Rattle.std.proofs.lemmas.List.Elements.{All-contains}
use Rattle.std.proofs.lemmas.List.Folds.{list_any_none}
use Rattle.pfr_track.specs.declared.state.State.{State}
use Rattle.pfr_track.specs.declared.state.StateNumber.{StateNumber}
use Rattle.pfr_track.specs.declared.time.Clock.{Clock}
use Rattle.pfr_states.specs.declared.change.TableChange.{TableChange}
use Rattle.pfr_states.specs.declared.change.TableChange.TheVariants as table
use Rattle.pfr_states.specs.States.{StateTable, due, is_number, purged, rise, state_of, with_change, with_state, with_touched}
use Rattle.pfr_states.proofs.DueOrderLemmas.{none_left, one_state_less, takes_first}
use Rattle.pfr_states.proofs.FilterLemmas.{rise_filter}
use Rattle.pfr_states.proofs.FindLemmas.{found_none, found_there, none_any, some_any}
use Rattle.pfr_states.proofs.Membership.{from_filter, here, in_cons, in_none, there, to_filter}
use Rattle.pfr_states.proofs.PurgeLemmas.{first_of_due, purged_on}
use Rattle.pfr_sync.specs.declared.event.EventKind.{EventKind}
use Rattle.pfr_sync.specs.declared.event.EventKind.TheVariants.{Made, Touched, Removed}
use Rattle.pfr_sync.specs.declared.event.Event.{Event}
use Rattle.pfr_sync.specs.Events.{is_of}
use Rattle.pfr_sync.specs.Laws.{is_left}
use Rattle.pfr_sync.proofs.StandbyLemmas.{a_standby_holds_what_is_left}
use Rattle.pfr_telling.specs.Standby.{APacketLeavesTheTable, AStandbyHoldsTheTable, Leave, StaysTold, is_told_of}
use Rattle.pfr_telling.specs.Telling.{AreTold, IsNextChange, changed, events_of, events_of_change, events_of_purge, events_of_removal, told}
use Rattle.pfr_telling.proofs.ChangeLemmas.{from_touched, from_with}
use Rattle.pfr_telling.proofs.HistoryLemmas.{history_none, history_push, left_made, left_none, left_other, left_removed, left_same, left_some}
use Rattle.pfr_telling.proofs.ToldLemmas.{each_of, made_may_come, may_come, same_number, told_is, told_of_removal}

pub nothing_leaves : Leave [] []
nothing_leaves = record {
  history = history_none;
  of_states = λ s at. absurd (in_none s at);
  no_other = λ n left. absurd (false≢true left);
}

-- ---- if nothing is told

told_none : (kind : EventKind) (clock : Clock) (state : State) → state.rules.is_synchronised ≡ false → told kind clock state ≡ []
told_none kind clock state is = ap (λ (test : Bool). if test then record { kind = kind; state = state; clock = clock } ∷ [] else []) is

abbrev event : EventKind → Clock → State → Event
event kind clock state = record { kind = kind; state = state; clock = clock }

-- what is left with an event of a state, whether it is told or not
by_told : (kind : EventKind) (clock : Clock) (state : State) (states : List State) (events : List Event)
    → (state.rules.is_synchronised ≡ true → Leave states (events ++ event kind clock state ∷ []))
    → (state.rules.is_synchronised ≡ false → Leave states events)
    → Leave states (events ++ told kind clock state)
by_told kind clock state states events are_told are_not = elim (cases_Bool state.rules.is_synchronised) [
  | inl is ↦ subst (λ (more : List Event). Leave states (events ++ more)) (sym (told_is kind clock state is)) (are_told is)
  | inr is ↦ subst (λ (all : List Event). Leave states all) (sym (ap (λ (more : List Event). events ++ more) (told_none kind clock state is) ∙ append-nil events)) (are_not is)
]

-- ---- a removal

abbrev is_another : StateNumber → State → Bool
is_another number state = not (is_number number state)

other_kept : (number : StateNumber) (states : List State) (s : State) → Contains states s → (s.number.0 ≡ number.0 → ⊥) → Contains (with_change (table.Removed number) states) s
other_kept number states s at other = to_filter (is_another number) states s at (ap not (ne_eqb s.number.0 number.0 other))

removal_untold : (states : List State) (events : List Event) (state : State) → Contains states state → state.rules.is_synchronised ≡ false → Leave states events → Leave (with_change (table.Removed state.number) states) events
removal_untold states events state is_there is_not leave = record {
  history = leave.history;
  of_states = λ s at. leave.of_states s (from_filter (is_another state.number) states s at).0;
  no_other = λ n left.
      let found = leave.no_other n left in (
        found.0,
        other_kept state.number states found.0 found.1 (λ same. false≢true (sym is_not ∙ sym (leave.of_states state is_there) ∙ ap (λ (k : ℕ). is_left k events) (sym same ∙ found.2) ∙ left)),
        found.2,
      );
}

removal_told : (count : ℕ) (clock : Clock) (states : List State) (events : List Event) (state : State) → AreTold count clock states events → Contains states state → state.rules.is_synchronised ≡ true → Leave states events
    → Leave (with_change (table.Removed state.number) states) (events ++ event Removed clock state ∷ [])
removal_told count clock states events state are is_there is leave =
    let e = event Removed clock state in
    record {
      history = history_push events e leave.history (may_come count clock states events e state are is_there refl refl) (λ none. absurd (false≢true (sym none ∙ left_some state.number.0 events (leave.of_states state is_there ∙ is))));
      of_states = λ s at.
          let kept = from_filter (is_another state.number) states s at in
          let other : is_of s.number.0 e ≡ false = ne_eqb state.number.0 s.number.0 (λ same. absurd (eqb-false s.number.0 state.number.0 (not-true (is_number state.number s) kept.1) (sym same))) in
          left_other s.number.0 events e other ∙ leave.of_states s kept.0;
      no_other = λ n left. elim (cases_Bool (is_of n e)) [
        | inl is_it ↦ absurd (false≢true (sym (left_removed n events e is_it refl) ∙ left))
        | inr other ↦
            let found = leave.no_other n (sym (left_other n events e other) ∙ left) in
            (found.0, other_kept state.number states found.0 found.1 (λ same. eqb-false state.number.0 n other (sym same ∙ found.2)), found.2)
      ];
    }

removal_leaves : (count : ℕ) (clock : Clock) (states : List State) (events : List Event) (state : State) → AreTold count clock states events → Contains states state → Leave states events
    → Leave (with_change (table.Removed state.number) states) (events ++ told Removed clock state)
removal_leaves count clock states events state are is_there leave =
    by_told Removed clock state (with_change (table.Removed state.number) states) events
    (λ is. removal_told count clock states events state are is_there is leave)
    (λ is_not. removal_untold states events state is_there is_not leave)

-- ---- a state that is touched

touched_keeps : (touched : State) (states : List State) (s : State) → Contains states s → (t : State) × Contains (with_touched touched states) t × (t.number.0 ≡ s.number.0)
touched_keeps touched [] s at = absurd (in_none s at)
touched_keeps touched (x ∷ states) s at =
    let first = if is_number touched.number x then touched else x in
    elim (in_cons x states s at) [
      | inl is ↦ (
        first,
        here first (with_touched touched states),
        elim (cases_Bool (is_number touched.number x)) [
          | inl same ↦ rw same (sym (eqb-true x.number.0 touched.number.0 same) ∙ ap (λ (t : State). t.number.0) is)
          | inr other ↦ rw other (ap (λ (t : State). t.number.0) is)
        ],
      )
      | inr rest ↦
          let more = touched_keeps touched states s rest in
          (more.0, there first (with_touched touched states) more.0 more.1, more.2)
    ]

touch_untold : (states : List State) (events : List Event) (state before : State) → Contains states before → state.number ≡ before.number → state.rules.is_synchronised ≡ before.rules.is_synchronised → Leave states events → Leave (with_touched state states) events
touch_untold states events state before is_there number stays leave = record {
  history = leave.history;
  of_states = λ s at. elim (from_touched state states s at) [
    | inl is ↦ subst (λ (t : State). is_left t.number.0 events ≡ t.rules.is_synchronised) is (ap (λ (k : StateNumber). is_left k.0 events) number ∙ leave.of_states before is_there ∙ sym stays)
    | inr was ↦ leave.of_states s was
  ];
  no_other = λ n left.
      let found = leave.no_other n left in
      let kept = touched_keeps state states found.0 found.1 in
      (kept.0, kept.1, kept.2 ∙ found.2);
}

touch_leaves : (count : ℕ) (clock : Clock) (states : List State) (events : List Event) (state before : State) → AreTold count clock states events → Contains states before → state.number ≡ before.number
    → state.rules.is_synchronised ≡ before.rules.is_synchronised → Leave states events → Leave (with_touched state states) (events ++ told Touched clock state)
touch_leaves count clock states events state before are is_there number stays leave =
    let e = event Touched clock state in
    let untold = touch_untold states events state before is_there number stays leave in
    by_told Touched clock state (with_touched state states) events
    (λ is.
    let left : is_left state.number.0 events ≡ true = ap (λ (k : StateNumber). is_left k.0 events) number ∙ leave.of_states before is_there ∙ sym stays ∙ is in
    record {
      history = history_push events e leave.history (may_come count clock states events e before are is_there number refl) (λ none. absurd (false≢true (sym none ∙ left_some state.number.0 events left)));
      of_states = λ s at. left_same s.number.0 events e left refl ∙ untold.of_states s at;
      no_other = λ n now. untold.no_other n (sym (left_same n events e left refl) ∙ now);
    })
    (λ is_not. untold)

-- ---- a state that is made

with_there : (made : State) (states : List State) → Contains (with_state made states) made
with_there made [] = here made []
with_there made (x ∷ states) = elim (cases_Bool (nat_lt made.number.0 x.number.0)) [
  | inl before ↦ rw before (here made (x ∷ states))
  | inr behind ↦ elim (cases_Bool (is_number made.number x)) [
    | inl same ↦ rw (behind, same) (here made states)
    | inr other ↦ rw (behind, other) (there x (with_state made states) made (with_there made states))
  ]
]

with_keeps : (made : State) (states : List State) (s : State) → Contains states s → (s.number.0 ≡ made.number.0 → ⊥) → Contains (with_state made states) s
with_keeps made [] s at apart = absurd (in_none s at)
with_keeps made (x ∷ states) s at apart = elim (cases_Bool (nat_lt made.number.0 x.number.0)) [
  | inl before ↦ rw before (there made (x ∷ states) s at)
  | inr behind ↦ elim (in_cons x states s at) [
    | inl is ↦
        let other : is_number made.number x ≡ false = ne_eqb x.number.0 made.number.0 (λ same. apart (ap (λ (t : State). t.number.0) (sym is) ∙ same)) in
        rw (behind, other) (subst (λ (t : State). Contains (x ∷ with_state made states) t) is (here x (with_state made states)))
    | inr rest ↦ elim (cases_Bool (is_number made.number x)) [
      | inl same ↦ rw (behind, same) (there made states s rest)
      | inr other ↦ rw (behind, other) (there x (with_state made states) s (with_keeps made states s rest apart))
    ]
  ]
]

making_leaves : (count : ℕ) (clock : Clock) (states : List State) (events : List Event) (state : State) → AreTold count clock states events → state.number.0 ≡ count + 1 → Leave states events
    → Leave (with_state state states) (events ++ told Made clock state)
making_leaves count clock states events state are number leave =
    let e = event Made clock state in
    let fresh : list_any (is_of state.number.0) events ≡ false = list_any_none (is_of state.number.0) events (each_of (λ (x : Event). is_of state.number.0 x ≡ false) events (λ x at.
    let below = All-contains (λ (x : Event). x.state.number.0 ≤ count) events x are.numbers at in
    ne_eqb x.state.number.0 state.number.0 (λ same. absurd (omega (arith, below, same, number))))) in
    let apart : (s : State) → Contains states s → s.number.0 ≡ state.number.0 → ⊥ = λ s at same. (let below = All-contains (λ (x : State). x.number.0 ≤ count) states s are.of_packets at in omega (arith, below, same, number)) in
    by_told Made clock state (with_state state states) events
    (λ is. record {
      history = history_push events e leave.history (made_may_come count clock states events e are number) (λ none. refl);
      of_states = λ s at. elim (from_with state states s at) [
        | inl same ↦ subst (λ (t : State). is_left t.number.0 (events ++ e ∷ []) ≡ t.rules.is_synchronised) same (left_made state.number.0 events e fresh (eq-eqb state.number.0 state.number.0 refl) refl refl ∙ sym is)
        | inr was ↦ left_other s.number.0 events e (ne_eqb state.number.0 s.number.0 (λ same. absurd (apart s was (sym same)))) ∙ leave.of_states s was
      ];
      no_other = λ n left. elim (cases_Bool (is_of n e)) [
        | inl is_it ↦ (state, with_there state states, eqb-true state.number.0 n is_it)
        | inr other ↦
            let found = leave.no_other n (sym (left_other n events e other) ∙ left) in
            (found.0, with_keeps state states found.0 found.1 (apart found.0 found.1), found.2)
      ];
    })
    (λ is_not. record {
      history = leave.history;
      of_states = λ s at. elim (from_with state states s at) [
        | inl same ↦ subst (λ (t : State). is_left t.number.0 events ≡ t.rules.is_synchronised) same (left_none state.number.0 events fresh ∙ sym is_not)
        | inr was ↦ leave.of_states s was
      ];
      no_other = λ n left.
          let found = leave.no_other n left in
          (found.0, with_keeps state states found.0 found.1 (apart found.0 found.1), found.2);
    })

-- ---- a packet's change

found_leaves : (count : ℕ) (clock : Clock) (states : List State) (events : List Event) (number : StateNumber) (found : Option State) → state_of number states ≡ found → AreTold count clock states events → Leave states events
    → Leave (with_change (table.Removed number) states) (events ++ events_of_removal clock found)
found_leaves count clock states events number None is are leave = subst (λ (all : List Event). Leave (with_change (table.Removed number) states) all) (sym (append-nil events)) (record {
  history = leave.history;
  of_states = λ s at. leave.of_states s (from_filter (is_another number) states s at).0;
  no_other = λ n left.
      let found = leave.no_other n left in
      (found.0, to_filter (is_another number) states found.0 found.1 (ap not (found_none (is_number number) states is found.0 found.1)), found.2);
})
found_leaves count clock states events number (Some state) is are leave =
    let found = found_there (is_number number) states state is in
    subst (λ (k : StateNumber). Leave (with_change (table.Removed k) states) (events ++ told Removed clock state)) (same_number state.number number (eqb-true state.number.0 number.0 found.1))
    (removal_leaves count clock states events state are found.0 leave)

next_leaves : (count : ℕ) (clock : Clock) (states : List State) (events : List Event) (change : TableChange) → AreTold count clock states events → Leave states events → IsNextChange count states change → StaysTold states change
    → Leave (with_change change states) (events ++ events_of_change clock (Some change) states)
next_leaves count clock states events (table.Made state) are leave next stays = making_leaves count clock states events state are next leave
next_leaves count clock states events (table.Touched state) are leave next stays = touch_leaves count clock states events state next.0 are next.1 next.2 (stays next.0 next.1 next.2) leave
next_leaves count clock states events (table.Removed number) are leave next stays = found_leaves count clock states events number (state_of number states) refl are leave

pub change_leaves : (count : ℕ) (clock : Clock) (before : StateTable) (events : List Event) (change : Option TableChange) → AreTold count clock before.states events → Leave before.states events
    → IfSome change (λ change. IsNextChange count before.states change × StaysTold before.states change)
    → Leave (changed change before).states (events ++ events_of_change clock change before.states)
change_leaves count clock before events None are leave next = subst (λ (all : List Event). Leave before.states all) (sym (append-nil events)) leave
change_leaves count clock before events (Some change) are leave next = next_leaves count clock before.states events change are leave next.0 next.1

-- ---- a purge

-- both go on
abbrev pub Both : ℕ → Clock → List State → List Event → Type 0
Both count clock states events = AreTold count clock states events × Leave states events

purge_over : (count : ℕ) (clock : Clock) (states : List State) (events : List Event) → due clock states ≡ None → Both count clock states events → Both count clock (purged clock states) (events ++ events_of_purge clock states)
purge_over count clock states events none both =
    let over = none_left states clock none in
    subst (λ (gone : List State). Both count clock (purged clock states) (events ++ flat_map (told Removed clock) gone)) (sym over.0)
    (subst (λ (left : List State). Both count clock left (events ++ [])) (sym over.1)
    (subst (λ (all : List Event). Both count clock states all) (sym (append-nil events)) both))

pub purge_by : (k count : ℕ) (clock : Clock) (states : List State) (events : List Event) (first : Option State) → due clock states ≡ first → length states ≡ k → rise states ≡ true → Both count clock states events
    → Both count clock (purged clock states) (events ++ events_of_purge clock states)
purge_by k count clock states events None is long in_order both = purge_over count clock states events is both
purge_by zero count clock states events (Some state) is long in_order both = (let less = one_state_less states clock state in_order is in absurd (omega (arith, less, long)))
purge_by (suc k) count clock states events (Some state) is long in_order both =
    let rest = with_change (table.Removed state.number) states in
    let less = one_state_less states clock state in_order is in
    let is_there = (first_of_due clock states state is).is_there in
    let more = events ++ told Removed clock state in
    let step : Both count clock rest more = (told_of_removal count clock states events state both.0 is_there, removal_leaves count clock states events state both.0 is_there both.1) in
    let all : Both count clock (purged clock rest) (more ++ events_of_purge clock rest) = purge_by k count clock rest more (due clock rest) refl (omega (arith, less, long)) (rise_filter (is_another state.number) states in_order) step in
    let whole : more ++ events_of_purge clock rest ≡ events ++ events_of_purge clock states =
    append_assoc events (told Removed clock state) (events_of_purge clock rest)
    ∙ ap (λ (gone : List State). events ++ flat_map (told Removed clock) gone) (sym (takes_first states clock state in_order is)) in
    subst (λ (left : List State). Both count clock left (events ++ events_of_purge clock states)) (purged_on clock states state in_order is)
    (subst (λ (es : List Event). Both count clock (purged clock rest) es) whole all)

pub a_packet_leaves_the_table : APacketLeavesTheTable
unfolding events_of
a_packet_leaves_the_table count clock change before events in_order are leave next =
    let left = purged clock before.states in
    let both = purge_by (length before.states) count clock before.states events (due clock before.states) refl refl in_order (are, leave) in
    subst (λ (all : List Event). Leave (changed change (record { states = left; limit = before.limit })).states all)
    (append_assoc events (events_of_purge clock before.states) (events_of_change clock change left))
    (change_leaves count clock (record { states = left; limit = before.limit }) (events ++ events_of_purge clock before.states) change both.0 both.1 next)

-- ---- what is held

left_told : (states : List State) (events : List Event) (n : ℕ) → Leave states events → is_left n events ≡ is_told_of n states
left_told states events n leave = elim (cases_Bool (is_left n events)) [
  | inl left ↦
      let found = leave.no_other n left in
      let is : found.0.rules.is_synchronised ≡ true = sym (leave.of_states found.0 found.1) ∙ ap (λ (k : ℕ). is_left k events) found.2 ∙ left in
      left ∙ sym (some_any (λ (s : State). s.number.0 == n && s.rules.is_synchronised) states found.0 found.1 (and_from (found.0.number.0 == n) found.0.rules.is_synchronised (eq-eqb found.0.number.0 n found.2) is))
  | inr gone ↦
      gone
      ∙ sym (none_any (λ (s : State). s.number.0 == n && s.rules.is_synchronised) states (λ s at. elim (cases_Bool (s.number.0 == n)) [
        | inl same ↦ rw same (sym (leave.of_states s at) ∙ ap (λ (k : ℕ). is_left k events) (eqb-true s.number.0 n same) ∙ gone)
        | inr other ↦ rw other refl
      ]))
]

pub a_standby_holds_the_table : AStandbyHoldsTheTable
a_standby_holds_the_table origin states events leave n = a_standby_holds_what_is_left origin events leave.history n ∙ left_told states events n leave
