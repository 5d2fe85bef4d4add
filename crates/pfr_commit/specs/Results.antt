-- What was found out ahead about the packets of a batch.
use Rattle.std.specs.Prelude.{◌≡◌, ◌<◌, ◌+◌, ℕ, Bool, ◌==◌, ◌&&◌, nat_lt, is_none, if◌then◌else◌, List, ◌++◌, length, get_or, Option, Some, None, Vec}
use Rattle.std.specs.Borrow.{Bor}
use Rattle.std.specs.List.{find, flat_map}
use Rattle.std.specs.Option.{option_map}
use Rattle.std.specs.declared.alloc.Global.{Global}
use Rattle.pfr_record.specs.declared.speculation.Speculation.{Speculation}

-- results that were sent together
abbrev pub Group : Type 0
Group = Vec Speculation Global

-- the results of some groups, those of the first group first
abbrev pub results_of : List Group → List Speculation
results_of groups = flat_map (λ group. group.items) groups

abbrev pub is_of : ℕ → Speculation → Bool
is_of number found = found.number == number

-- places for results
abbrev pub Places : Type 0
Places = List (Option (Bor Speculation))

-- the result at a place, if there is one
abbrev pub held_at : Places → ℕ → Option Speculation
held_at places place = option_map (λ found. found.now) (get_or places place None)

-- at each place is the first result of its packet, if there is one; `first` is the number of the packet at the first
-- place
abbrev pub ArePlaced : List Speculation → ℕ → Places → Type 0
ArePlaced results first places = (place : ℕ) → place < length places → held_at places place ≡ find (is_of (first + place)) results

-- a place exists and is empty
abbrev pub is_free : Places → ℕ → Bool
is_free places place = nat_lt place (length places) && is_none (get_or places place None)

-- what is known of a packet with one result more: an earlier one stays
abbrev pub with_result : Option Speculation → ℕ → Speculation → Option Speculation
with_result None number found = if is_of number found then Some found else None
with_result (Some earlier) number found = Some earlier

-- a result goes to its packet's place, unless one is there already
abbrev pub Puts : ℕ → Speculation → (old new : Places) → Type 0
Puts first found old new = (place : ℕ) → place < length old → held_at new place ≡ with_result (held_at old place) (first + place) found

-- the results of a group go to their places, after the results that are there
abbrev pub PutsGroup : ℕ → List Speculation → (old new : Places) → Type 0
PutsGroup first group old new = (before : List Speculation) → ArePlaced before first old → ArePlaced (before ++ group) first new
