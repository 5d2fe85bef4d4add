-- Words of the laws: which state is due first, what is left if it is taken out, and the room of rules.
use Rattle.std.specs.Prelude.{◌≡◌, ℕ, suc, List, ◌∷◌, ◌++◌, length, Option, Some, None, true, false}
use Rattle.std.specs.List.{Contains, filter, list_any}
use Rattle.pfr_net.specs.declared.interface.Binding.TheVariants.{To}
use Rattle.pfr_net.specs.declared.interface.InterfacePlace.{InterfacePlace}
use Rattle.pfr_net.specs.Interfaces.{meets}
use Rattle.pfr_track.specs.declared.key.Key.{Key}
use Rattle.pfr_track.specs.declared.state.State.{State}
use Rattle.pfr_track.specs.declared.state.StateNumber.{StateNumber}
use Rattle.pfr_track.specs.declared.time.Clock.{Clock}
use Rattle.pfr_states.specs.declared.change.TableChange.TheVariants.{Removed}
use Rattle.pfr_states.specs.declared.change.Side.{Side}
use Rattle.pfr_states.specs.States.{IsTable, StateTable, all_due, at, due, goes_before, has_rule_room, is_of_rule, lives, purged, rise, with_change}

-- a state that is due, and no other one before it
pub record IsFirstDue (clock : Clock) (states : List State) (first : State) : Type 0 where
  -- it is one of the states
  pub is_there : Contains states first
  -- its deadline has come
  pub is_due : lives clock first ≡ false
  -- no other one whose deadline has come goes before it
  pub is_first : (other : State) → Contains states other → lives clock other ≡ false → goes_before other first ≡ false

-- the first of the states that are due, or None if no deadline has come
abbrev pub AnswersDue : Clock → List State → Option State → Type 0
AnswersDue clock states None = (state : State) → Contains states state → lives clock state ≡ true
AnswersDue clock states (Some first) = IsFirstDue clock states first

-- ---- one state after the other

-- the state that is due is the first of all that are due; the others are those that are due without it
abbrev pub DueGoesFirst : Type 0
DueGoesFirst =
    (states : List State) (clock : Clock) (state : State)
    → rise states ≡ true
    → due clock states ≡ Some state
    → all_due clock states ≡ state ∷ all_due clock (with_change (Removed state.number) states)

-- a purge leaves the same, whether the state was taken out before or not
abbrev pub PurgeLeavesTheSame : Type 0
PurgeLeavesTheSame =
    (states : List State) (clock : Clock) (state : State)
    → rise states ≡ true
    → due clock states ≡ Some state
    → purged clock (with_change (Removed state.number) states) ≡ purged clock states

-- without it there is one state less
abbrev pub OneStateLess : Type 0
OneStateLess =
    (states : List State) (clock : Clock) (state : State)
    → rise states ≡ true
    → due clock states ≡ Some state
    → suc (length (with_change (Removed state.number) states)) ≡ length states

-- a table without one of its states is a table
abbrev pub RemovalLeavesATable : Type 0
RemovalLeavesATable =
    (table : StateTable) (number : StateNumber)
    → IsTable table
    → IsTable (record { states = with_change (Removed number) table.states; limit = table.limit })

-- ---- bindings

-- a look-up for an interface is answered by the states that are bound to it: states bound elsewhere don't matter
abbrev pub BoundElsewhereSayNothing : Type 0
BoundElsewhereSayNothing =
    (side : Side) (key : Key) (place : InterfacePlace) (states : List State)
    → at side key (To place) (filter (λ state. meets state.rules.binding (To place)) states) ≡ at side key (To place) states

-- ---- the room of a rule

-- states of other rules don't matter to it
abbrev pub OtherRulesSayNothing : Type 0
OtherRulesSayNothing =
    (rule most : ℕ) (states more : List State)
    → list_any (is_of_rule rule) more ≡ false
    → has_rule_room rule most (states ++ more) ≡ has_rule_room rule most states

-- if a rule has room, it has room after a purge
abbrev pub PurgeLeavesRoom : Type 0
PurgeLeavesRoom =
    (rule most : ℕ) (states : List State) (clock : Clock)
    → has_rule_room rule most states ≡ true
    → has_rule_room rule most (purged clock states) ≡ true
