-- A table of states: a finite map from number to state, as the list of its states by rising number. No two states that
-- meet on an interface share a key, and there are no more than the limit.
use Rattle.std.specs.Prelude.{◌≡◌, ℕ, ◌≤◌, ◌==◌, ◌&&◌, ◌||◌, Bool, true, false, not, nat_lt, if◌then◌else◌, List, [], ◌∷◌, length, map, fold, Option, Some, None}
use Rattle.std.specs.List.{filter, find, list_all, list_any}
use Rattle.pfr_net.specs.declared.endpoint.Endpoint.{Endpoint}
use Rattle.pfr_net.specs.declared.interface.Binding.{Binding}
use Rattle.pfr_net.specs.declared.rule_number.RuleNumber.{RuleNumber}
use Rattle.pfr_net.specs.Interfaces.{meets}
use Rattle.pfr_track.specs.declared.key.Key.{Key}
use Rattle.pfr_track.specs.declared.state.State.{State}
use Rattle.pfr_track.specs.declared.state.StateNumber.{StateNumber}
use Rattle.pfr_track.specs.declared.time.Clock.{Clock}
use Rattle.pfr_states.specs.declared.change.Change.{Change}
use Rattle.pfr_states.specs.declared.change.Change.TheVariants.{Purge, Apply}
use Rattle.pfr_states.specs.declared.change.Side.{Side}
use Rattle.pfr_states.specs.declared.change.Side.TheVariants.{Wire, Stack}
use Rattle.pfr_states.specs.declared.change.TableChange.{TableChange}
use Rattle.pfr_states.specs.declared.change.TableChange.TheVariants.{Made, Touched, Removed}
use Rattle.pfr_states.specs.declared.change.TableError.{TableError}
use Rattle.pfr_states.specs.declared.change.TableError.TheVariants.{KeyTaken, Full}

-- ---- keys

abbrev pub is_same_end : Endpoint → Endpoint → Bool
is_same_end a b = a.address.0 == b.address.0 && a.port.0 == b.port.0

abbrev pub is_same_key : Key → Key → Bool
is_same_key a b = a.protocol.0 == b.protocol.0 && (is_same_end a.outside b.outside && is_same_end a.inside b.inside)

abbrev pub key_on : Side → State → Key
key_on Wire state = state.wire
key_on Stack state = state.stack

-- two states have a key in common, on the same side, and an interface to which both are bound
abbrev pub shares_key : State → State → Bool
shares_key a b = meets a.rules.binding b.rules.binding && (is_same_key a.wire b.wire || is_same_key a.stack b.stack)

abbrev pub is_number : StateNumber → State → Bool
is_number number state = state.number.0 == number.0

-- ---- a table

abbrev pub are_above : State → List State → Bool
are_above state states = list_all (λ other. nat_lt state.number.0 other.number.0) states

-- the numbers rise
abbrev pub rise : List State → Bool
rise [] = true
rise (state ∷ states) = are_above state states && rise states

-- no two share a key
abbrev pub have_own_keys : List State → Bool
have_own_keys [] = true
have_own_keys (state ∷ states) = not (list_any (shares_key state) states) && have_own_keys states

-- what a table is
pub record StateTable : Type 0 where
  pub states : List State
  pub limit : ℕ

abbrev pub empty : ℕ → StateTable
empty limit = record { states = []; limit = limit }

-- what is true of every table
pub record IsTable (table : StateTable) : Type 0 where
  pub in_order : rise table.states ≡ true
  pub own_keys : have_own_keys table.states ≡ true
  pub few : length table.states ≤ table.limit

-- ---- clocks

-- a state is there at a clock as long as its deadline is above it
abbrev pub lives : Clock → State → Bool
lives clock state = nat_lt clock.0 state.deadline.0

abbrev pub purged : Clock → List State → List State
purged clock states = filter (lives clock) states

-- ---- questions

-- a state has this key, and is bound to an interface of the scope
abbrev pub is_found : Side → Key → Binding → State → Bool
is_found side key scope state = is_same_key (key_on side state) key && meets state.rules.binding scope

-- the state with the least number that is found so
abbrev pub at : Side → Key → Binding → List State → Option State
at side key scope states = find (is_found side key scope) states

-- the state with this number
abbrev pub state_of : StateNumber → List State → Option State
state_of number states = find (is_number number) states

abbrev pub has_room : ℕ → List State → Bool
has_room limit states = nat_lt (length states) limit

-- the rule with this number
abbrev pub names_rule : ℕ → Option RuleNumber → Bool
names_rule rule None = false
names_rule rule (Some named) = named.0 == rule

-- a state that the filter rule with this number made
abbrev pub is_of_rule : ℕ → State → Bool
is_of_rule rule state = names_rule rule state.rules.filter

-- how many states the filter rule with this number made
abbrev pub count_of_rule : ℕ → List State → ℕ
count_of_rule rule states = length (filter (is_of_rule rule) states)

-- the filter rule with this number has fewer than `most` states
unfoldable pub has_rule_room : ℕ → ℕ → List State → Bool
has_rule_room rule most states = nat_lt (count_of_rule rule states) most

-- by deadline, and if these are equal by number
abbrev pub goes_before : State → State → Bool
goes_before a b = nat_lt a.deadline.0 b.deadline.0 || (a.deadline.0 == b.deadline.0 && nat_lt a.number.0 b.number.0)

abbrev pub earlier : Option State → State → Option State
earlier None state = Some state
earlier (Some first) state = if goes_before state first then Some state else Some first

abbrev pub first_of : List State → Option State
first_of states = fold earlier None states

-- the first of the states whose deadline has come
abbrev pub due : Clock → List State → Option State
due clock states = first_of (filter (λ state. not (lives clock state)) states)

-- a state put among others in the order in which they are due
abbrev pub with_due : State → List State → List State
with_due state [] = state ∷ []
with_due state (other ∷ states) = if goes_before state other then state ∷ other ∷ states else other ∷ with_due state states

-- states by deadline, and if these are equal by number
abbrev pub in_due_order : List State → List State
in_due_order [] = []
in_due_order (state ∷ states) = with_due state (in_due_order states)

-- the states whose deadline has come, in the order in which they are due
abbrev pub all_due : Clock → List State → List State
all_due clock states = in_due_order (filter (λ state. not (lives clock state)) states)

-- the state with the least number
abbrev pub first : List State → Option State
first [] = None
first (state ∷ states) = Some state

-- the state with the least number above `number`
abbrev pub after : StateNumber → List State → Option State
after number states = find (λ state. nat_lt number.0 state.number.0) states

-- ---- changes

-- a state in its place; a state with the same number is replaced
abbrev pub with_state : State → List State → List State
with_state state [] = state ∷ []
with_state state (other ∷ states) =
    if nat_lt state.number.0 other.number.0 then state ∷ other ∷ states else
    if is_number state.number other then state ∷ states else other ∷ with_state state states

abbrev pub with_touched : State → List State → List State
with_touched state states = map (λ other. if is_number state.number other then state else other) states

abbrev pub with_change : TableChange → List State → List State
with_change (Made state) states = with_state state states
with_change (Touched state) states = with_touched state states
with_change (Removed number) states = filter (λ state. not (is_number number state)) states

-- one of the state's keys is taken by a state of another number
abbrev pub another_shares : State → List State → Bool
another_shares state states = list_any (λ other. not (is_number state.number other) && shares_key state other) states

-- another state has one of the state's keys; for a touched state, a state with another number
abbrev pub is_taken : TableChange → List State → Bool
is_taken (Made state) states = list_any (shares_key state) states
is_taken (Touched state) states = another_shares state states
is_taken (Removed number) states = false

abbrev pub is_too_many : TableChange → ℕ → List State → Bool
is_too_many (Made state) limit states = not (has_room limit states)
is_too_many _ limit states = false

-- why a change is refused
unfoldable pub refusal : TableChange → ℕ → List State → Option TableError
refusal change limit states =
    if is_taken change states then Some KeyTaken else
    if is_too_many change limit states then Some Full else None

-- ---- what packets do to a table

-- the table behind one change, with the same limit
abbrev pub stepped : StateTable → Change → StateTable
stepped table (Purge clock) = record { states = purged clock table.states; limit = table.limit }
stepped table (Apply change) = record { states = with_change change table.states; limit = table.limit }

-- the table that a list of changes makes of the empty one, one after the other
abbrev pub table_of : ℕ → List Change → StateTable
table_of limit changes = fold stepped (empty limit) changes
