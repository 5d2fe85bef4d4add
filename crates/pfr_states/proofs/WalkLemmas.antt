-- States that are gone through by their numbers.
use Rattle.std.proofs.Common.{◌≡◌, ◌∙◌, true, nat_lt, List, [], ◌∷◌, Option, Some, None, sym, refl, ap, inl, inr, arith}
use Rattle.std.specs.List.{Contains, filter}
use Rattle.std.proofs.lemmas.Bool.{and_parts, cases_Bool, le-ltb, ltb-true, lt-ltb}
use Rattle.pfr_track.specs.declared.state.State.{State}
use Rattle.pfr_track.specs.declared.state.StateNumber.{StateNumber}
use Rattle.pfr_states.specs.States.{after, are_above, first, rise}
use Rattle.pfr_states.proofs.FindLemmas.{above_all, found_there}
use Rattle.pfr_states.proofs.Membership.{here, there}

-- those of greater numbers
abbrev pub above : StateNumber → List State → List State
above number states = filter (λ state. nat_lt number.0 state.number.0) states

-- a state and those above it
abbrev pub from : List State → Option State → List State
from states None = []
from states (Some state) = state ∷ above state.number states

all_above : (n : StateNumber) (xs : List State) → ((x : State) → Contains xs x → nat_lt n.0 x.number.0 ≡ true) → above n xs ≡ xs
all_above n [] all = refl
all_above n (x ∷ xs) all = rw (all x (here x xs)) (ap (λ (rest : List State). x ∷ rest) (all_above n xs (λ y h. all y (there x xs y h))))

pub from_first : (xs : List State) → rise xs ≡ true → from xs (first xs) ≡ xs
from_first [] in_order = refl
from_first (x ∷ xs) in_order =
    let parts = and_parts (are_above x xs) (rise xs) in_order in
    let not_itself = le-ltb x.number.0 x.number.0 (omega arith) in
    rw not_itself (ap (λ (rest : List State). x ∷ rest) (all_above x.number xs (λ y h. above_all x.number x y xs parts.0 h)))

-- one state in front of those that are gone through
from_behind : (x : State) (xs : List State) (r : Option State) → are_above x xs ≡ true → ((s : State) → r ≡ Some s → Contains xs s) → from (x ∷ xs) r ≡ from xs r
from_behind x xs None above among = refl
from_behind x xs (Some s) above among =
    let over = ltb-true x.number.0 s.number.0 (above_all x.number x s xs above (among s refl)) in
    let not_over = le-ltb s.number.0 x.number.0 (omega arith) in
    rw not_over refl

pub from_after : (n : StateNumber) (xs : List State) → rise xs ≡ true → above n xs ≡ from xs (after n xs)
from_after n [] in_order = refl
from_after n (x ∷ xs) in_order =
    let parts = and_parts (are_above x xs) (rise xs) in_order in
    elim (cases_Bool (nat_lt n.0 x.number.0)) [
      | inl over ↦
          let under = ltb-true n.0 x.number.0 over in
          let not_itself = le-ltb x.number.0 x.number.0 (omega arith) in
          let others = all_above n xs (λ y h. (let more = ltb-true x.number.0 y.number.0 (above_all x.number x y xs parts.0 h) in lt-ltb n.0 y.number.0 (omega arith))) in
          let same = all_above x.number xs (λ y h. above_all x.number x y xs parts.0 h) in
          rw (over, not_itself) (ap (λ (rest : List State). x ∷ rest) (others ∙ sym same))
      | inr other ↦
          let rest = from_after n xs parts.1 in
          rw other (rest ∙ sym (from_behind x xs (after n xs) parts.0 (λ s is. (found_there (λ state. nat_lt n.0 state.number.0) xs s is).0)))
    ]

-- one step on
pub from_next : (xs : List State) (state : State) (next later : Option State) → rise xs ≡ true → next ≡ Some state → later ≡ after state.number xs → from xs next ≡ state ∷ from xs later
from_next xs state next later in_order is later_is = ap (from xs) is ∙ ap (λ (rest : List State). state ∷ rest) (from_after state.number xs in_order ∙ ap (from xs) (sym later_is))
