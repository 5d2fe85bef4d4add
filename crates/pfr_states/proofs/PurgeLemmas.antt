-- States that are taken out one after the other, as their deadlines come.
use Rattle.std.proofs.Common.{◌≡◌, ◌<◌, ◌∙◌, Bool, true, false, not, is_some, nat_le, List, [], ◌∷◌, length, Option, Some, None, sym, refl, ap, subst, inl, inr}
use Rattle.std.specs.List.{Contains, filter, list_any}
use Rattle.std.proofs.lemmas.Bool.{both_ways, cases_Bool, eq-eqb, eqb-true, false_from_ne_true, le-ltb, leb-false, leb-true, lt-ltb}
use Rattle.pfr_net.specs.declared.interface.Binding.{Binding}
use Rattle.pfr_track.specs.declared.key.Key.{Key}
use Rattle.pfr_track.specs.declared.state.State.{State}
use Rattle.pfr_track.specs.declared.time.Clock.{Clock}
use Rattle.pfr_states.specs.declared.change.Side.{Side}
use Rattle.pfr_states.specs.Laws.{AnswersDue, IsFirstDue}
use Rattle.pfr_states.specs.Indexed.{covers}
use Rattle.pfr_states.specs.States.{at, due, have_own_keys, is_found, is_number, lives, purged, rise}
use Rattle.pfr_states.proofs.OwnKeys.{one_found}
use Rattle.pfr_states.proofs.DueLemmas.{due_first}
use Rattle.pfr_states.proofs.FilterLemmas.{one_less}
use Rattle.pfr_states.proofs.FindLemmas.{found_only, none_any, none_found, one_number, some_any, without}
use Rattle.pfr_states.proofs.Membership.{from_filter, here, there, to_filter}

kept_all : {X : Type 0} (q : X → Bool) (xs : List X) → ((x : X) → Contains xs x → q x ≡ true) → filter q xs ≡ xs
kept_all q [] all = refl
kept_all q (x ∷ xs) all = rw (all x (here x xs)) (ap (λ xs. x ∷ xs) (kept_all q xs (λ y h. all y (there x xs y h))))

-- what a second filter keeps of the first one's list, if the first keeps all that the second does
kept_again : {X : Type 0} (p q : X → Bool) (xs : List X) → ((x : X) → Contains xs x → q x ≡ true → p x ≡ true) → filter q (filter p xs) ≡ filter q xs
kept_again p q [] keeps = refl
kept_again p q (x ∷ xs) keeps =
    let rest = kept_again p q xs (λ y h. keeps y (there x xs y h)) in
    elim (cases_Bool (q x)) [
      | inl it_is ↦ rw (keeps x (here x xs) it_is, it_is) (ap (λ xs. x ∷ xs) rest)
      | inr not_it ↦ elim (cases_Bool (p x)) [ inl kept ↦ rw (kept, not_it) rest | inr gone ↦ rw (gone, not_it) rest ]
    ]

pub first_of_due : (clock : Clock) (xs : List State) (a : State) → due clock xs ≡ Some a → IsFirstDue clock xs a
first_of_due clock xs a is = subst (λ (r : Option State). AnswersDue clock xs r) is (due_first xs clock)

pub purged_on : (clock : Clock) (xs : List State) (a : State) → rise xs ≡ true → due clock xs ≡ Some a → purged clock (without a.number xs) ≡ purged clock xs
purged_on clock xs a in_order is =
    let first = first_of_due clock xs a is in
    kept_again (λ state. not (is_number a.number state)) (lives clock) xs (λ b h alive. elim (cases_Bool (is_number a.number b)) [
      | inl same ↦ absurd (both_ways (lives clock b) (ap (lives clock) (one_number xs in_order b a h first.is_there (eqb-true b.number.0 a.number.0 same)) ∙ first.is_due) alive)
      | inr other ↦ ap not other
    ])

pub purged_off : (clock : Clock) (xs : List State) → due clock xs ≡ None → purged clock xs ≡ xs
purged_off clock xs is = kept_all (lives clock) xs (subst (λ (r : Option State). AnswersDue clock xs r) is (due_first xs clock))

pub fewer : (clock : Clock) (xs : List State) (a : State) → due clock xs ≡ Some a → length (without a.number xs) < length xs
fewer clock xs a is =
    let first = first_of_due clock xs a is in
    one_less (λ state. not (is_number a.number state)) xs (some_any (λ state. not (not (is_number a.number state))) xs a first.is_there (ap (λ (b : Bool). not (not b)) (eq-eqb a.number.0 a.number.0 refl)))

due_by : (clock : Clock) (xs : List State) (r : Option State) → AnswersDue clock xs r → is_some r ≡ list_any (λ state. not (lives clock state)) xs
due_by clock xs None alive = sym (none_any (λ state. not (lives clock state)) xs (λ a h. ap not (alive a h)))
due_by clock xs (Some a) first = sym (some_any (λ state. not (lives clock state)) xs a first.is_there (ap not first.is_due))

pub some_is_due : (clock : Clock) (xs : List State) → is_some (due clock xs) ≡ list_any (λ state. not (lives clock state)) xs
some_is_due clock xs = due_by clock xs (due clock xs) (due_first xs clock)

-- ---- who has a key once those are gone whose deadline has come

-- a state that is found and has all interfaces of the scope
pub at_gone : (side : Side) (key : Key) (scope : Binding) (clock : Clock) (xs : List State) (a : State) → have_own_keys xs ≡ true → Contains xs a × (is_found side key scope a ≡ true) → covers a.rules.binding scope ≡ true → nat_le a.deadline.0 clock.0 ≡ true → None ≡ at side key scope (purged clock xs)
at_gone side key scope clock xs a own h all come =
    let past = leb-true a.deadline.0 clock.0 come in
    let gone : lives clock a ≡ false = le-ltb clock.0 a.deadline.0 past in
    sym (none_found (is_found side key scope) (purged clock xs) (λ b inside.
    let parts = from_filter (lives clock) xs b inside in
    false_from_ne_true (is_found side key scope b) (λ too. both_ways (lives clock b) (ap (lives clock) (sym (one_found side key scope xs own a b h.0 parts.0 all h.1 too)) ∙ gone) parts.1)))

pub at_alive : (side : Side) (key : Key) (scope : Binding) (clock : Clock) (xs : List State) (a : State) → have_own_keys xs ≡ true → Contains xs a × (is_found side key scope a ≡ true) → covers a.rules.binding scope ≡ true → nat_le a.deadline.0 clock.0 ≡ false → Some a ≡ at side key scope (purged clock xs)
at_alive side key scope clock xs a own h all not_come =
    let later = leb-false a.deadline.0 clock.0 not_come in
    sym (found_only (is_found side key scope) (purged clock xs) a (to_filter (lives clock) xs a h.0 (lt-ltb clock.0 a.deadline.0 later)) h.1
    (λ b inside is. one_found side key scope xs own a b h.0 (from_filter (lives clock) xs b inside).0 all h.1 is))

pub at_none : (side : Side) (key : Key) (scope : Binding) (clock : Clock) (xs : List State) → ((a : State) → Contains xs a → is_found side key scope a ≡ false) → None ≡ at side key scope (purged clock xs)
at_none side key scope clock xs none = sym (none_found (is_found side key scope) (purged clock xs) (λ b inside. none b (from_filter (lives clock) xs b inside).0))
