-- What an event does to the entries, as an edit of a list.
use Rattle.std.specs.Prelude.{◌≡◌, ℕ, ◌+◌, List, ◌++◌, take, drop, Option, Some, None}
use Rattle.std.specs.List.{cons_option}
use Rattle.pfr_track.specs.declared.state.State.{State}
use Rattle.pfr_track.specs.declared.state.StateNumber.{StateNumber}
use Rattle.pfr_sync.specs.declared.edit.Edit.{Edit}
use Rattle.pfr_sync.specs.declared.event.Event.{Event}
use Rattle.pfr_sync.specs.declared.queue.QueuedState.{QueuedState}
use Rattle.pfr_sync.specs.declared.queue.Action.{Action}
use Rattle.pfr_sync.specs.Queues.{with_entry}

-- the entry that tells an action of a state; none if nothing is told
abbrev pub entry_of : State → Option Action → Option QueuedState
entry_of state None = None
entry_of state (Some action) = Some (record { action = action; state = state })

-- the place after the entry that is replaced
abbrev pub behind : ℕ → Option Action → ℕ
behind place None = place
behind place (Some action) = place + 1

-- events of the number change nothing before the place
abbrev pub IsPlaceOf : StateNumber → (place : ℕ) → List QueuedState → Type 0
IsPlaceOf number place entries =
    (event : Event) → event.state.number ≡ number → with_entry event entries ≡ take place entries ++ with_entry event (drop place entries)

-- the entries after the edit
abbrev pub edited : State → Edit → List QueuedState → List QueuedState
edited state edit entries =
    take edit.place entries ++ cons_option (entry_of state edit.new) (drop (behind edit.place edit.old) entries)
