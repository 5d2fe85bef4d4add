-- Entries after an edit.
use Rattle.std.proofs.Common.{◌≡◌, ℕ, suc, ◌+◌, ◌≤◌, List, length, set, is_some, true, Option, Some, None, arith}
use Rattle.std.proofs.lemmas.Bool.{false≢true}
use Rattle.std.proofs.lemmas.List.{set_split}
use Rattle.pfr_track.specs.declared.state.State.{State}
use Rattle.pfr_sync.specs.declared.queue.QueuedState.{QueuedState}
use Rattle.pfr_sync.specs.declared.queue.Action.{Action}
use Rattle.pfr_sync.specs.Edits.{behind, edited}

-- an entry that is written over
pub set_edit : (entries : List QueuedState) (place : ℕ) (state : State) (old new : Option Action) (action : Action) → is_some old ≡ true → new ≡ Some action → behind place old ≤ length entries
    → set entries place (record { action = action; state = state }) ≡ edited state (record { place = place; old = old; new = new }) entries
set_edit entries place state None new action there is within = absurd (false≢true there)
set_edit entries place state (Some old) new action there is within =
    let next : place + 1 ≡ suc place = omega arith in
    rw (is, next) (set_split entries place (record { action = action; state = state }) (omega arith))
