-- Histories with one event more, and what they leave.
use Rattle.std.proofs.Common.{◌≡◌, ◌⊎◌, ℕ, true, false, not, List, [], ◌∷◌, ◌++◌, sym, refl, ap, ◌∙◌, subst, inl, inr}
use Rattle.std.specs.List.{filter, list_any}
use Rattle.std.proofs.lemmas.Bool.{and_parts, cases_Bool, eqb-true, false≢true}
use Rattle.std.proofs.lemmas.List.{append-nil}
use Rattle.std.proofs.lemmas.List.Elements.{filter-append}
use Rattle.pfr_sync.specs.declared.event.Event.{Event}
use Rattle.pfr_sync.specs.Events.{MayCome, is_made, is_of, is_removed}
use Rattle.pfr_sync.specs.Laws.{IsHistory, is_left, leave_it}
use Rattle.pfr_sync.specs.Messages.{last_of}
use Rattle.pfr_sync.proofs.StandbyLemmas.{and_nothing}
use Rattle.pfr_sync.proofs.ToldLemmas.{last_push, none_kept}

-- ---- histories

none_placed : (before : List Event) (x : Event) (more : List Event) → [] ≡ before ++ x ∷ more → ⊥
none_placed [] x more is = cc
none_placed (b ∷ before) x more is = cc

pub history_none : IsHistory []
history_none = record {
  may_come = λ before x more is. absurd (none_placed before x more is);
  begins = λ before x more is. absurd (none_placed before x more is);
}

-- an event is the last one, or one of those before it
placed : (events : List Event) (e : Event) (before : List Event) (x : Event) (more : List Event) → events ++ e ∷ [] ≡ before ++ x ∷ more
    → ((events ≡ before) × (e ≡ x)) ⊎ ((rest : List Event) × (events ≡ before ++ x ∷ rest))
placed [] e [] x more is = inl (refl, cc is)
placed [] e (b ∷ before) x more is = absurd (none_placed before x more (cc is))
placed (y ∷ events) e [] x more is = inr (events, ap (λ (first : Event). first ∷ events) (cc is))
placed (y ∷ events) e (b ∷ before) x more is =
    let first : y ≡ b = cc is in
    elim (placed events e before x more (cc is)) [
      | inl ends ↦ inl (cc (first, ends.0), ends.1)
      | inr on ↦ inr (on.0, cc (first, on.1))
    ]

pub history_push : (events : List Event) (e : Event) → IsHistory events → MayCome events e → (list_any (is_of e.state.number.0) events ≡ false → is_made e ≡ true) → IsHistory (events ++ e ∷ [])
history_push events e history may begins = record {
  may_come = λ before x more is. elim (placed events e before x more is) [
    | inl ends ↦ subst (λ (y : Event). MayCome before y) ends.1 (subst (λ (es : List Event). MayCome es e) ends.0 may)
    | inr on ↦ history.may_come before x on.0 on.1
  ];
  begins = λ before x more is none. elim (placed events e before x more is) [
    | inl ends ↦
        let none_of_it : list_any (is_of e.state.number.0) events ≡ false =
        ap (λ (es : List Event). list_any (is_of e.state.number.0) es) ends.0 ∙ ap (λ (y : Event). list_any (is_of y.state.number.0) before) ends.1 ∙ none in
        ap is_made (sym ends.1) ∙ begins none_of_it
    | inr on ↦ history.begins before x on.0 on.1 none
  ];
}

-- ---- what is left

pub left_none : (n : ℕ) (events : List Event) → list_any (is_of n) events ≡ false → is_left n events ≡ false
left_none n events none = ap leave_it (none_kept (is_of n) events none)

pub left_some : (n : ℕ) (events : List Event) → is_left n events ≡ true → list_any (is_of n) events ≡ true
left_some n events left = elim (cases_Bool (list_any (is_of n) events)) [ inl some ↦ some | inr none ↦ absurd (false≢true (sym (left_none n events none) ∙ left)) ]

kept_push : (n : ℕ) (events : List Event) (e : Event) → is_of n e ≡ true → is_left n (events ++ e ∷ []) ≡ leave_it (filter (is_of n) events ++ e ∷ [])
kept_push n events e it_is = ap leave_it (filter-append (is_of n) events (e ∷ [])) ∙ ap (λ (more : List Event). leave_it (filter (is_of n) events ++ more)) (rw it_is refl)

pub left_other : (n : ℕ) (events : List Event) (e : Event) → is_of n e ≡ false → is_left n (events ++ e ∷ []) ≡ is_left n events
left_other n events e other =
    ap leave_it (filter-append (is_of n) events (e ∷ []))
    ∙ ap (λ (more : List Event). leave_it (filter (is_of n) events ++ more)) (rw other refl)
    ∙ ap leave_it (append-nil (filter (is_of n) events))

removed_last : (events : List Event) (e : Event) → is_removed e ≡ true → leave_it (events ++ e ∷ []) ≡ false
removed_last [] e gone = rw gone (and_nothing (is_made e))
removed_last (b ∷ events) e gone = rw (last_push b events e, gone) (and_nothing (is_made b))

pub left_removed : (n : ℕ) (events : List Event) (e : Event) → is_of n e ≡ true → is_removed e ≡ true → is_left n (events ++ e ∷ []) ≡ false
left_removed n events e it_is gone = kept_push n events e it_is ∙ removed_last (filter (is_of n) events) e gone

touched_last : (events : List Event) (e : Event) → leave_it events ≡ true → is_removed e ≡ false → leave_it (events ++ e ∷ []) ≡ true
touched_last [] e left there = absurd (false≢true left)
touched_last (b ∷ events) e left there = rw (last_push b events e, there, (and_parts (is_made b) (not (is_removed (last_of b events))) left).0) refl

-- an event of a state that is there, but for its removal
pub left_same : (n : ℕ) (events : List Event) (e : Event) → is_left e.state.number.0 events ≡ true → is_removed e ≡ false → is_left n (events ++ e ∷ []) ≡ is_left n events
left_same n events e left there = elim (cases_Bool (is_of n e)) [
  | inl it_is ↦
      let was : is_left n events ≡ true = subst (λ (k : ℕ). is_left k events ≡ true) (eqb-true e.state.number.0 n it_is) left in
      kept_push n events e it_is ∙ touched_last (filter (is_of n) events) e was there ∙ sym was
  | inr other ↦ left_other n events e other
]

-- the first event of a state
pub left_made : (n : ℕ) (events : List Event) (e : Event) → list_any (is_of n) events ≡ false → is_of n e ≡ true → is_made e ≡ true → is_removed e ≡ false → is_left n (events ++ e ∷ []) ≡ true
left_made n events e none it_is made there =
    kept_push n events e it_is ∙ ap (λ (before : List Event). leave_it (before ++ e ∷ [])) (none_kept (is_of n) events none) ∙ (rw (made, there) refl)
