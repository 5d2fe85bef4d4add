-- Where the states of a table come from, once it has taken over a change.
use Rattle.std.proofs.Common.{◌≡◌, ◌⊎◌, nat_lt, List, [], ◌∷◌, if◌then◌else◌, inl, inr}
use Rattle.std.specs.List.{Contains}
use Rattle.std.proofs.lemmas.Bool.{cases_Bool}
use Rattle.pfr_track.specs.declared.state.State.{State}
use Rattle.pfr_states.specs.States.{is_number, with_state, with_touched}
use Rattle.pfr_states.proofs.Membership.{here, in_cons, in_none, there}

pub from_with : (made : State) (states : List State) (s : State) → Contains (with_state made states) s → (made ≡ s) ⊎ Contains states s
from_with made [] s h = in_cons made [] s h
from_with made (other ∷ states) s h = elim (cases_Bool (nat_lt made.number.0 other.number.0)) [
  | inl before ↦ in_cons made (other ∷ states) s (rw before at h)
  | inr behind ↦ elim (cases_Bool (is_number made.number other)) [
    | inl same ↦ elim (in_cons made states s (rw (behind, same) at h)) [ inl is ↦ inl is | inr rest ↦ inr (there other states s rest) ]
    | inr not_same ↦ elim (in_cons other (with_state made states) s (rw (behind, not_same) at h)) [
      | inl is ↦ inr (rw (← is) (here other states))
      | inr rest ↦ elim (from_with made states s rest) [ inl is ↦ inl is | inr more ↦ inr (there other states s more) ]
    ]
  ]
]

pub from_touched : (touched : State) (states : List State) (s : State) → Contains (with_touched touched states) s → (touched ≡ s) ⊎ Contains states s
from_touched touched [] s h = absurd (in_none s h)
from_touched touched (other ∷ states) s h = elim (in_cons (if is_number touched.number other then touched else other) (with_touched touched states) s h) [
  | inl is ↦ elim (cases_Bool (is_number touched.number other)) [ inl same ↦ inl (rw same at is) | inr not_same ↦ inr (rw (← (rw not_same at is)) (here other states)) ]
  | inr rest ↦ elim (from_touched touched states s rest) [ inl is ↦ inl is | inr more ↦ inr (there other states s more) ]
]
