-- Changes that a table doesn't refuse.
use Rattle.std.proofs.Common.{◌≡◌, ◌&&◌, ℕ, true, false, not, List, None, refl, sym, ap, ◌∙◌, inl, inr}
use Rattle.std.specs.List.{Contains, list_any}
use Rattle.std.proofs.lemmas.Bool.{cases_Bool, eq-eqb}
use Rattle.pfr_track.specs.declared.state.State.{State}
use Rattle.pfr_track.specs.declared.state.StateNumber.{StateNumber}
use Rattle.pfr_states.specs.declared.change.Side.TheVariants.{Wire, Stack}
use Rattle.pfr_states.specs.declared.change.TableChange.TheVariants.{Made, Touched, Removed}
use Rattle.pfr_states.specs.States.{at, has_room, is_found, is_number, refusal, shares_key}
use Rattle.pfr_states.proofs.FindLemmas.{found_none, none_any}
use Rattle.pfr_states.proofs.ShareLemmas.{shares_stack}
use Rattle.pfr_packet.specs.Laws.{IsTouchedOf}
use Rattle.pfr_packet.specs.declared.outcome.Outcome.{Outcome}
use Rattle.pfr_packet.proofs.Members.{none_is}

-- ---- a made state

none_shares : (state : State) (states : List State) → at Wire state.wire state.rules.binding states ≡ None → at Stack state.stack state.rules.binding states ≡ None → list_any (shares_key state) states ≡ false
none_shares state states wire stack =
    let on_wire = is_found Wire state.wire state.rules.binding in
    let on_stack = is_found Stack state.stack state.rules.binding in
    sym (shares_stack state states false false (sym (none_any on_wire states (found_none on_wire states wire))) refl (sym (none_any on_stack states (found_none on_stack states stack))))

pub made_free : (state : State) (limit : ℕ) (states : List State) → at Wire state.wire state.rules.binding states ≡ None → at Stack state.stack state.rules.binding states ≡ None → has_room limit states ≡ true → refusal (Made state) limit states ≡ None
unfolding refusal
made_free state limit states wire stack room = rw (none_shares state states wire stack, room) refl

-- ---- a touched state

-- no two states of a list have a key in common
abbrev pub AreApart : List State → Type 0
AreApart states = (a b : State) → Contains states a → Contains states b → shares_key a b ≡ true → a ≡ b

not_other : (states : List State) (outcome : Outcome) (state : State) → AreApart states → IsTouchedOf states outcome state
    → (other : State) → Contains states other → (not (is_number state.number other) && shares_key state other) ≡ false
not_other states outcome state apart touched other in_states = elim (cases_Bool (shares_key state other)) [
  | inl shared ↦ (
      let same = apart touched.before other touched.is_there in_states (rw (touched.wire_is, touched.stack_is, touched.rules_are) at shared) in
      let number : is_number state.number other ≡ true = eq-eqb other.number.0 state.number.0 (ap (λ (s : State). s.number.0) (sym same) ∙ ap (λ (n : StateNumber). n.0) (sym touched.number_is)) in
      rw number refl
      )
  | inr alone ↦ elim (cases_Bool (is_number state.number other)) [ inl it_is ↦ rw it_is refl | inr not_it ↦ rw (not_it, alone) refl ]
]

pub touched_free : (limit : ℕ) (states : List State) (outcome : Outcome) (state : State) → AreApart states → IsTouchedOf states outcome state → refusal (Touched state) limit states ≡ None
unfolding refusal
touched_free limit states outcome state apart touched =
    rw (none_is (λ (other : State). not (is_number state.number other) && shares_key state other) states (not_other states outcome state apart touched)) refl

-- ---- a removed one

pub removed_free : (number : StateNumber) (limit : ℕ) (states : List State) → refusal (Removed number) limit states ≡ None
unfolding refusal
removed_free number limit states = refl
