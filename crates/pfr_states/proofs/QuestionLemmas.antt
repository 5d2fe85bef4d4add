-- What is found, and what is due.
use Rattle.std.proofs.Common.{◌≡◌, Bool, true, is_some, List, Option, Some, None, sym, refl, ap, inl, inr}
use Rattle.std.specs.List.{Contains, find}
use Rattle.std.proofs.lemmas.Bool.{both_ways, cases_order, false≢true}
use Rattle.pfr_track.specs.declared.state.State.{State}
use Rattle.pfr_track.specs.declared.time.Clock.{Clock}
use Rattle.pfr_states.specs.Indexed.{IsAnswer}
use Rattle.pfr_states.specs.Laws.{AnswersDue, IsFirstDue}
use Rattle.pfr_states.specs.States.{due, lives, rise}
use Rattle.pfr_states.proofs.DueLemmas.{due_first, no_before}
use Rattle.pfr_states.proofs.FindLemmas.{answer, one_number}

some_by : {X : Type 0} (p : X → Bool) (xs : List X) (r : Option X) → IsAnswer p xs r → is_some r ≡ true → (a : X) × Contains xs a × (p a ≡ true)
some_by p xs None answer some = absurd (false≢true some)
some_by p xs (Some a) answer some = (a, answer.0, answer.1)

pub some_found : {X : Type 0} (p : X → Bool) (xs : List X) → is_some (find p xs) ≡ true → (a : X) × Contains xs a × (p a ≡ true)
some_found p xs some = some_by p xs (find p xs) (answer p xs) some

pub first_by : (xs : List State) (clock : Clock) (a : State) (r : Option State) → rise xs ≡ true → IsFirstDue clock xs a → AnswersDue clock xs r → r ≡ Some a
first_by xs clock a None in_order first answer = absurd (both_ways (lives clock a) first.is_due (answer a first.is_there))
first_by xs clock a (Some b) in_order first answer =
    let not_a = no_before a b (answer.is_first a first.is_there first.is_due) in
    let not_b = no_before b a (first.is_first b answer.is_there answer.is_due) in
    ap Some (elim (cases_order a.deadline.0 b.deadline.0) [
      | inl level ↦ elim (cases_order a.number.0 b.number.0) [
        | inl same ↦ one_number xs in_order b a answer.is_there first.is_there (sym same)
        | inr (inl less) ↦ absurd (not_a (inr (level, less)))
        | inr (inr more) ↦ absurd (not_b (inr (sym level, more)))
      ]
      | inr (inl less) ↦ absurd (not_a (inl less))
      | inr (inr more) ↦ absurd (not_b (inl more))
    ])

pub none_by : (clock : Clock) (xs : List State) (r : Option State) → ((a : State) → Contains xs a → lives clock a ≡ true) → AnswersDue clock xs r → None ≡ r
none_by clock xs None alive answer = refl
none_by clock xs (Some a) alive answer = absurd (both_ways (lives clock a) answer.is_due (alive a answer.is_there))

-- no deadline has come
pub none_is_due : (clock : Clock) (xs : List State) → ((a : State) → Contains xs a → lives clock a ≡ true) → None ≡ due clock xs
none_is_due clock xs alive = none_by clock xs (due clock xs) alive (due_first xs clock)
