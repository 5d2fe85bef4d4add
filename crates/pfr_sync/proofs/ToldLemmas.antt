-- What is told of a state with one event more.
use Rattle.std.proofs.Common.{◌≡◌, ℕ, Bool, true, false, not, if◌then◌else◌, List, [], ◌∷◌, ◌++◌, Option, Some, None, sym, refl, ap, ◌∙◌, inl, inr}
use Rattle.std.specs.List.{filter, list_all, list_any, AllByRecursion}
use Rattle.std.proofs.lemmas.Bool.{and_parts, and_from, or_parts, cases_Bool, eqb-true, not_from_false, not-true}
use Rattle.std.proofs.lemmas.List.{append-nil}
use Rattle.std.proofs.lemmas.List.Elements.{filter-append, recursion_from_All}
use Rattle.pfr_track.specs.declared.state.State.{State}
use Rattle.pfr_track.specs.declared.time.Clock.{Clock}
use Rattle.pfr_sync.specs.declared.event.Event.{Event}
use Rattle.pfr_sync.specs.declared.event.EventKind.{EventKind}
use Rattle.pfr_sync.specs.declared.event.EventKind.TheVariants.{Made, Touched, Removed}
use Rattle.pfr_sync.specs.declared.queue.QueuedState.{QueuedState}
use Rattle.pfr_sync.specs.declared.queue.Action.TheVariants.{Insert, Update, Delete}
use Rattle.pfr_sync.specs.Events.{MayCome, is_made, is_of, is_removed}
use Rattle.pfr_sync.specs.Messages.{last_of, told_by, told_of}
use Rattle.pfr_sync.specs.Queues.{begun, followed, number_of}

-- ---- the first event of a state

begun_by : (kind : EventKind) (state : State) (clock : Clock) → let e : Event = record { kind = kind; state = state; clock = clock } in told_by e e ≡ Some (begun e)
begun_by Made state clock = refl
begun_by Touched state clock = refl
begun_by Removed state clock = refl

pub told_first : (e : Event) → told_of (e ∷ []) ≡ Some (begun e)
told_first e = begun_by e.kind e.state e.clock

-- ---- another one

pub record Follows (told : Option QueuedState) (e : Event) (next : Option QueuedState) : Type 0 where
  pub entry : QueuedState
  pub is : told ≡ Some entry
  pub next_is : next ≡ followed entry.action e

follows_made : (kind : EventKind) (state : State) (clock : Clock) → let e : Event = record { kind = kind; state = state; clock = clock } in is_made e ≡ false
    → (if is_removed e then None else Some (record { action = Insert; state = e.state })) ≡ followed Insert e
follows_made Made state clock it = absurd cc
follows_made Touched state clock it = refl
follows_made Removed state clock it = refl

follows_moved : (kind : EventKind) (state : State) (clock : Clock) → let e : Event = record { kind = kind; state = state; clock = clock } in is_made e ≡ false
    → (if is_removed e then Some (record { action = Delete; state = e.state }) else Some (record { action = Update; state = e.state })) ≡ followed Update e
follows_moved Made state clock it = absurd cc
follows_moved Touched state clock it = refl
follows_moved Removed state clock it = refl

follows : (first last e : Event) → is_removed last ≡ false → is_made e ≡ false → Follows (told_by first last) e (told_by first e)
follows first last e lives moved = elim (cases_Bool (is_made first)) [
  | inl made ↦ record {
    entry = record { action = Insert; state = last.state };
    is = rw (made, lives) refl;
    next_is = rw made (follows_made e.kind e.state e.clock moved);
  }
  | inr made ↦ record {
    entry = record { action = Update; state = last.state };
    is = rw (made, lives) refl;
    next_is = rw made (follows_moved e.kind e.state e.clock moved);
  }
]

pub last_push : (first : Event) (events : List Event) (e : Event) → last_of first (events ++ e ∷ []) ≡ e
last_push first [] e = refl
last_push first (x ∷ events) e = last_push x events e

pub last_all : (p : Event → Bool) (first : Event) (events : List Event) → list_all p (first ∷ events) ≡ true → p (last_of first events) ≡ true
last_all p first [] all = (and_parts (p first) true all).0
last_all p first (x ∷ events) all = last_all p x events (and_parts (p first) (list_all p (x ∷ events)) all).1

follows_all : (first : Event) (events : List Event) (e : Event) → list_all (λ x. not (is_removed x)) (first ∷ events) ≡ true → is_made e ≡ false
    → Follows (told_of (first ∷ events)) e (told_of ((first ∷ events) ++ e ∷ []))
follows_all first events e lives moved =
    let last : is_removed (last_of first events) ≡ false = not-true _ (last_all (λ x. not (is_removed x)) first events lives) in
    rw (last_push first events e) (follows first (last_of first events) e last moved)

-- ---- events that may come

pub lives_by : (e : Event) (events : List Event) → AllByRecursion (λ before. is_of e.state.number.0 before ≡ true → (is_removed before ≡ false) × (is_made e ≡ false)) events
    → list_all (λ x. not (is_removed x)) (filter (is_of e.state.number.0) events) ≡ true
lives_by e [] all = refl
lives_by e (x ∷ events) all = elim (cases_Bool (is_of e.state.number.0 x)) [
  | inl it_is ↦ rw it_is (and_from (not (is_removed x)) (list_all (λ x. not (is_removed x)) (filter (is_of e.state.number.0) events)) (not_from_false (is_removed x) (all.0 it_is).0) (lives_by e events all.1))
  | inr not_it ↦ rw not_it (lives_by e events all.1)
]

pub moved_by : (e : Event) (events : List Event) → AllByRecursion (λ before. is_of e.state.number.0 before ≡ true → (is_removed before ≡ false) × (is_made e ≡ false)) events
    → list_any (is_of e.state.number.0) events ≡ true → is_made e ≡ false
moved_by e [] all some = absurd cc
moved_by e (x ∷ events) all some = elim (cases_Bool (is_of e.state.number.0 x)) [
  | inl it_is ↦ (all.0 it_is).1
  | inr not_it ↦ moved_by e events all.1 (rw not_it at some)
]

pub none_kept : (p : Event → Bool) (events : List Event) → list_any p events ≡ false → filter p events ≡ []
none_kept p [] none = refl
none_kept p (x ∷ events) none =
    let parts = or_parts (p x) (list_any p events) none in
    rw (parts.0, none_kept p events parts.1) refl

some_kept : (p : Event → Bool) (events : List Event) → list_any p events ≡ true → (first : Event) × (rest : List Event) × (filter p events ≡ first ∷ rest)
some_kept p [] some = absurd cc
some_kept p (x ∷ events) some = elim (cases_Bool (p x)) [
  | inl it_is ↦ (x, filter p events, rw it_is refl)
  | inr not_it ↦ let rest = some_kept p events (rw not_it at some) in (rest.0, rest.1, rw not_it rest.2)
]

-- ---- with one event more

-- what is told of a state
abbrev pub told_at : ℕ → List Event → Option QueuedState
told_at n events = told_of (filter (is_of n) events)

kept_one : (n : ℕ) (e : Event) → is_of n e ≡ true → filter (is_of n) (e ∷ []) ≡ e ∷ []
kept_one n e it_is = rw it_is refl

kept_none : (n : ℕ) (e : Event) → is_of n e ≡ false → filter (is_of n) (e ∷ []) ≡ []
kept_none n e not_it = rw not_it refl

pub told_other : (n : ℕ) (events : List Event) (e : Event) → is_of n e ≡ false → told_at n (events ++ e ∷ []) ≡ told_at n events
told_other n events e other = ap told_of (filter-append (is_of n) events (e ∷ []) ∙ ap (λ rest. filter (is_of n) events ++ rest) (kept_none n e other) ∙ append-nil (filter (is_of n) events))

kept_push : (n : ℕ) (events : List Event) (e : Event) → is_of n e ≡ true → filter (is_of n) (events ++ e ∷ []) ≡ filter (is_of n) events ++ e ∷ []
kept_push n events e it = filter-append (is_of n) events (e ∷ []) ∙ ap (λ rest. filter (is_of n) events ++ rest) (kept_one n e it)

pub told_begins : (n : ℕ) (events : List Event) (e : Event) → is_of n e ≡ true → list_any (is_of n) events ≡ false → told_at n (events ++ e ∷ []) ≡ Some (begun e)
told_begins n events e it none = ap told_of (kept_push n events e it ∙ ap (λ before. before ++ e ∷ []) (none_kept (is_of n) events none)) ∙ told_first e

pub told_follows : (events : List Event) (e : Event) → MayCome events e → list_any (is_of e.state.number.0) events ≡ true → is_of e.state.number.0 e ≡ true
    → Follows (told_at e.state.number.0 events) e (told_at e.state.number.0 (events ++ e ∷ []))
told_follows events e may some it =
    let n = e.state.number.0 in
    let all = recursion_from_All (λ before. is_of n before ≡ true → (is_removed before ≡ false) × (is_made e ≡ false)) events may in
    let kept = some_kept (is_of n) events some in
    let lives : list_all (λ x. not (is_removed x)) (kept.0 ∷ kept.1) ≡ true = ap (list_all (λ (x : Event). not (is_removed x))) (sym kept.2) ∙ lives_by e events all in
    rw (kept_push n events e it, kept.2) (follows_all kept.0 kept.1 e lives (moved_by e events all some))

-- ---- whose it is

abbrev pub IsOf : ℕ → Option QueuedState → Type 0
IsOf n None = Unit {0}
IsOf n (Some entry) = number_of entry ≡ n

of_by : (n : ℕ) (first last : Event) → last.state.number.0 ≡ n → IsOf n (told_by first last)
of_by n first last is = elim (cases_Bool (is_made first)) [
  | inl made ↦ elim (cases_Bool (is_removed last)) [ inl gone ↦ rw (made, gone) tt | inr gone ↦ rw (made, gone) is ]
  | inr made ↦ elim (cases_Bool (is_removed last)) [ inl gone ↦ rw (made, gone) is | inr gone ↦ rw (made, gone) is ]
]

of_list : (n : ℕ) (events : List Event) → list_all (is_of n) events ≡ true → IsOf n (told_of events)
of_list n [] all = tt
of_list n (first ∷ events) all = of_by n first (last_of first events) (eqb-true _ n (last_all (is_of n) first events all))

kept_of : (n : ℕ) (events : List Event) → list_all (is_of n) (filter (is_of n) events) ≡ true
kept_of n [] = refl
kept_of n (x ∷ events) = elim (cases_Bool (is_of n x)) [
  | inl it_is ↦ rw it_is (and_from (is_of n x) (list_all (is_of n) (filter (is_of n) events)) it_is (kept_of n events))
  | inr not_it ↦ rw not_it (kept_of n events)
]

pub told_is_of : (n : ℕ) (events : List Event) → IsOf n (told_at n events)
told_is_of n events = of_list n (filter (is_of n) events) (kept_of n events)
