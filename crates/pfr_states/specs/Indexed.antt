-- Who has a key, and which states may stand for one another.
use Rattle.std.specs.Prelude.{◌≡◌, ◌==◌, ◌&&◌, Bool, true, false, not, nat_lt, if◌then◌else◌, List, Option, Some, None, is_none}
use Rattle.std.specs.List.{Contains}
use Rattle.std.specs.Option.{option_map}
use Rattle.pfr_net.specs.declared.interface.Binding.{Binding}
use Rattle.pfr_net.specs.declared.interface.Binding.TheVariants.{All, To}
use Rattle.pfr_net.specs.declared.rule_number.RuleNumber.{RuleNumber}
use Rattle.pfr_track.specs.declared.key.Key.{Key}
use Rattle.pfr_track.specs.declared.state.State.{State}
use Rattle.pfr_track.specs.declared.state.StateNumber.{StateNumber}
use Rattle.pfr_track.specs.declared.time.Clock.{Clock}
use Rattle.pfr_states.specs.declared.change.Side.{Side}
use Rattle.pfr_states.specs.States.{at, is_found, is_number, is_same_key, lives, names_rule}

-- ---- who has a key

-- an element that passes a test, or None if none does
abbrev pub IsAnswer : {X : Type 0} → (X → Bool) → List X → Option X → Type 0
IsAnswer {X} test xs None = (x : X) → Contains xs x → test x ≡ false
IsAnswer test xs (Some x) = Contains xs x × (test x ≡ true)

-- a state is found and has another number
abbrev pub is_another : StateNumber → Side → Key → Binding → State → Bool
is_another number side key scope state = not (is_number number state) && is_found side key scope state

-- a binding has all interfaces of a scope, so that only one state that is found by the scope may have it
abbrev pub covers : Binding → Binding → Bool
covers All scope = true
covers (To place) (To other) = place.0 == other.0
covers (To place) All = false

-- a state is found at a clock
abbrev pub is_found_alive : Side → Key → Binding → Clock → State → Bool
is_found_alive side key scope clock state = is_found side key scope state && lives clock state

-- the number of the found state with the least number
abbrev pub number_at : Side → Key → Binding → List State → Option StateNumber
number_at side key scope states = option_map (λ state. state.number) (at side key scope states)

-- the lesser one of two numbers, if there are two
abbrev pub lesser : Option StateNumber → Option StateNumber → Option StateNumber
lesser None other = other
lesser (Some number) None = Some number
lesser (Some number) (Some other) = if nat_lt other.0 number.0 then Some other else Some number

-- ---- states that are alike

-- the same rule, or none
abbrev pub is_same_rule : Option RuleNumber → Option RuleNumber → Bool
is_same_rule None other = is_none other
is_same_rule (Some rule) other = names_rule rule.0 other

abbrev pub is_same_binding : Binding → Binding → Bool
is_same_binding All All = true
is_same_binding (To place) (To other) = place.0 == other.0
is_same_binding _ _ = false

abbrev pub have_same_keys : State → State → Bool
have_same_keys a b = is_same_key a.wire b.wire && is_same_key a.stack b.stack

-- two states are made by the same filter rule, and bound to the same interfaces
abbrev pub have_same_rules : State → State → Bool
have_same_rules a b = is_same_rule a.rules.filter b.rules.filter && is_same_binding a.rules.binding b.rules.binding

-- two states have the same number, the same keys, the same filter rule and the same binding
abbrev pub is_like : State → State → Bool
is_like a b = a.number.0 == b.number.0 && (have_same_keys a b && have_same_rules a b)
