-- States at their places, the entries in indexes of their keys, and how many states each rule made.
use Rattle.std.specs.Prelude.{◌≡◌, ◌<◌, ℕ, ◌+◌, Bool, true, false, if◌then◌else◌, List, [], ◌∷◌, map, get_or, Option, Some, None}
use Rattle.std.specs.List.{Contains, list_any}
use Rattle.pfr_index.specs.Index.{Entry, once, places}
use Rattle.pfr_places.specs.Places.{Placed, at, have_own_places, rise}
use Rattle.pfr_places.specs.declared.place.Place.{Place}
use Rattle.pfr_net.specs.declared.interface.Binding.{Binding}
use Rattle.pfr_track.specs.declared.key.Key.{Key}
use Rattle.pfr_track.specs.declared.state.State.{State}
use Rattle.pfr_track.specs.declared.state.StateNumber.{StateNumber}
use Rattle.pfr_track.specs.declared.time.Clock.{Clock}
use Rattle.pfr_states.specs.declared.change.Side.{Side}
use Rattle.pfr_states.specs.declared.change.Side.TheVariants.{Wire, Stack}
use Rattle.pfr_states.specs.declared.stored.Stored.{Stored}
use Rattle.pfr_states.specs.Indexed.{is_found_alive}
use Rattle.pfr_states.specs.KeyHash.{hash_of}
use Rattle.pfr_states.specs.States.{count_of_rule, have_own_keys, is_same_key, key_on}

abbrev pub states_of : List (Placed Stored) → List State
states_of all = map (λ placed. placed.value.state) all

-- whether there is a state, and it passes a test
abbrev pub passes : (State → Bool) → Option (Placed Stored) → Bool
passes test None = false
passes test (Some placed) = test placed.value.state

-- whether the state at a place does
abbrev pub passes_at : (State → Bool) → Place → List (Placed Stored) → Bool
passes_at test place all = passes test (at place all)

-- the place of a state that passes a test, or None if no state does
abbrev pub IsPlaceOf : (State → Bool) → List (Placed Stored) → Option Place → Type 0
IsPlaceOf test all None = list_any test (states_of all) ≡ false
IsPlaceOf test all (Some place) = passes_at test place all ≡ true

-- a test that only states with a key on a side pass
abbrev pub Asks : Side → Key → (State → Bool) → Type 0
Asks side key test = (state : State) → test state ≡ true → is_same_key (key_on side state) key ≡ true

-- the answer for a place is whether its state passes a test
abbrev pub Decides : (Place → Bool → Type 0) → (State → Bool) → List (Placed Stored) → Type 0
Decides answers test all = (place : Place) (answer : Bool) → answers place answer → answer ≡ passes_at test place all

-- the place of a state that passes a test, for each test that asks for the key and decides the answers
abbrev pub IsPlaceBy : Side → Key → (Place → Bool → Type 0) → List (Placed Stored) → Option Place → Type 0
IsPlaceBy side key answers all found = (test : State → Bool) → Asks side key test → Decides answers test all → IsPlaceOf test all found

-- the number of a state, if it passes a test
abbrev pub number_if : (State → Bool) → Option (Placed Stored) → Option StateNumber
number_if test None = None
number_if test (Some placed) = if test placed.value.state then Some placed.value.state.number else None

-- the number of the state at a place, if it is found at a clock
abbrev pub number_alive : Side → Key → Binding → Clock → Place → List (Placed Stored) → Option StateNumber
number_alive side key scope clock place all = number_if (is_found_alive side key scope clock) (at place all)

-- ---- indexes

abbrev pub entry_of : Side → Placed Stored → Entry
entry_of side placed = record { hash = hash_of (key_on side placed.value.state); place = placed.place }

-- the sum of all weights
abbrev pub total : (Placed Stored → ℕ) → List (Placed Stored) → ℕ
total weight [] = 0
total weight (placed ∷ all) = weight placed + total weight all

-- how often an index of a side has an entry: once for each state
abbrev pub times_on : Side → List (Placed Stored) → Entry → ℕ
times_on side all entry = total (λ placed. once (entry_of side placed) entry) all

-- a state with its own number, at a place
abbrev pub held : Stored → Place → Placed Stored
held stored place = record { number = stored.state.number.0; place = place; value = stored }

-- a state has the number, the keys, the filter rule and the binding of another one
pub record IsLike (old new : State) : Type 0 where
  pub number : old.number.0 ≡ new.number.0
  pub keys : (side : Side) → key_on side old ≡ key_on side new
  pub rule : old.rules.filter ≡ new.rules.filter
  pub binding : old.rules.binding ≡ new.rules.binding

-- each state stands under its own number
abbrev pub AreNumbered : List (Placed Stored) → Type 0
AreNumbered all = (placed : Placed Stored) → Contains all placed → placed.number ≡ placed.value.state.number.0

-- states under their own numbers, each at a place of its own; no two of them share a key
pub record AreStates (all : List (Placed Stored)) : Type 0 where
  pub by_number : AreNumbered all
  pub in_order : rise all ≡ true
  pub own_places : have_own_places all ≡ true
  pub within : (placed : Placed Stored) → Contains all placed → placed.place.0 < places
  pub own_keys : have_own_keys (states_of all) ≡ true

-- each rule has the count of the states that it made
abbrev pub AreCounted : List ℕ → List (Placed Stored) → Type 0
AreCounted counts all = (rule : ℕ) → get_or counts rule 0 ≡ count_of_rule rule (states_of all)

-- the indexes have the place of each state by its keys, and nothing else; the states are counted by their filter rules
pub record AreKeyed (all : List (Placed Stored)) (wire stack : Entry → ℕ) (counts : List ℕ) : Type 0 where
  pub states : AreStates all
  pub by_wire : (entry : Entry) → wire entry ≡ times_on Wire all entry
  pub by_stack : (entry : Entry) → stack entry ≡ times_on Stack all entry
  pub by_rule : AreCounted counts all
