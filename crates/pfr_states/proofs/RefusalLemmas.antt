-- Why a change is refused, and when it isn't.
use Rattle.std.proofs.Common.{◌≡◌, ◌≤◌, ◌<◌, ◌&&◌, ℕ, true, false, not, List, length, Some, None, refl}
use Rattle.std.specs.List.{list_any}
use Rattle.std.proofs.lemmas.Bool.{lt-ltb, le-ltb}
use Rattle.pfr_track.specs.declared.state.State.{State}
use Rattle.pfr_track.specs.declared.state.StateNumber.{StateNumber}
use Rattle.pfr_states.specs.declared.change.TableChange.TheVariants.{Made, Touched, Removed}
use Rattle.pfr_states.specs.declared.change.TableError.TheVariants.{KeyTaken, Full}
use Rattle.pfr_states.specs.States.{shares_key, is_number, refusal}

pub made_taken : (s : State) (limit : ℕ) (states : List State) → list_any (shares_key s) states ≡ true → refusal (Made s) limit states ≡ Some KeyTaken
unfolding refusal
made_taken s limit states taken = rw taken refl

pub made_over : (s : State) (limit : ℕ) (states : List State) → list_any (shares_key s) states ≡ false → limit ≤ length states → refusal (Made s) limit states ≡ Some Full
unfolding refusal
made_over s limit states free full = rw (free, le-ltb (length states) limit full) refl

pub made_fits : (s : State) (limit : ℕ) (states : List State) → list_any (shares_key s) states ≡ false → length states < limit → refusal (Made s) limit states ≡ None
unfolding refusal
made_fits s limit states free room = rw (free, lt-ltb (length states) limit room) refl

pub touched_taken : (s : State) (limit : ℕ) (states : List State) → list_any (λ other. not (is_number s.number other) && shares_key s other) states ≡ true → refusal (Touched s) limit states ≡ Some KeyTaken
unfolding refusal
touched_taken s limit states taken = rw taken refl

pub touched_fits : (s : State) (limit : ℕ) (states : List State) → list_any (λ other. not (is_number s.number other) && shares_key s other) states ≡ false → refusal (Touched s) limit states ≡ None
unfolding refusal
touched_fits s limit states free = rw free refl

pub removed_fits : (number : StateNumber) (limit : ℕ) (states : List State) → refusal (Removed number) limit states ≡ None
unfolding refusal
removed_fits number limit states = refl
