-- The deadlines by which states wait.
use Rattle.std.specs.Prelude.{ℕ, ◌≤◌, ◌==◌, ◌&&◌, Bool, false, not, if◌then◌else◌, List, fold, Option, Some, None}
use Rattle.std.specs.List.{Contains}
use Rattle.pfr_places.specs.Places.{Placed, at, value_of}
use Rattle.pfr_track.specs.declared.state.State.{State}
use Rattle.pfr_track.specs.declared.time.Clock.{Clock}
use Rattle.pfr_states.specs.declared.stored.Stored.{Stored}
use Rattle.pfr_states.specs.States.{earlier, is_of_rule, lives}
use Rattle.pfr_deadlines.specs.Waits.{Wait}

-- the deadline by which a state waits, with its number and its place
abbrev pub wait_of : Placed Stored → Wait
wait_of placed = (placed.value.waits, placed.value.state.number, placed.place)

-- a state waits by a deadline that isn't later than its own
pub record IsAwaited (waits : List Wait) (placed : Placed Stored) : Type 0 where
  pub there : Contains waits (wait_of placed)
  pub early : placed.value.waits.0 ≤ placed.value.state.deadline.0

-- each state does
abbrev pub AreAwaited : List Wait → List (Placed Stored) → Type 0
AreAwaited waits all = (placed : Placed Stored) → Contains all placed → IsAwaited waits placed

-- whether a state waits by exactly this deadline
abbrev pub waits_by : Wait → Stored → Bool
waits_by wait stored = stored.waits.0 == wait.0.0 && stored.state.number.0 == wait.1.0

-- the state that waits by exactly this deadline
abbrev pub kept_by : Wait → Option Stored → Option Stored
kept_by wait None = None
kept_by wait (Some stored) = if waits_by wait stored then Some stored else None

abbrev pub is_kept_by : Wait → Option Stored → Bool
is_kept_by wait None = false
is_kept_by wait (Some stored) = waits_by wait stored

abbrev pub is_kept_at : Wait → List (Placed Stored) → Bool
is_kept_at wait all = is_kept_by wait (value_of (at wait.2 all))

-- ---- the first of all

-- the state that waits by this deadline, if its own has come
abbrev pub due_if_kept : Clock → Wait → Option Stored → Option State
due_if_kept clock wait None = None
due_if_kept clock wait (Some stored) = if waits_by wait stored && not (lives clock stored.state) then Some stored.state else None

abbrev pub due_by : Clock → List (Placed Stored) → Wait → Option State
due_by clock all wait = due_if_kept clock wait (value_of (at wait.2 all))

-- a state that the filter rule with this number made
abbrev pub is_some_of_rule : ℕ → Option State → Bool
is_some_of_rule rule None = false
is_some_of_rule rule (Some state) = is_of_rule rule state

-- the first of two, if there are two
abbrev pub sooner : Option State → Option State → Option State
sooner first None = first
sooner first (Some state) = earlier first state

-- the first of the due states that wait by one of these deadlines
abbrev pub first_by : Clock → List (Placed Stored) → List Wait → Option State
first_by clock all waits = fold (λ first wait. sooner first (due_by clock all wait)) None waits
