-- Deadlines by which states wait.
use Rattle.std.specs.Prelude.{◌≡◌, ℕ, ◌-◌, ◌≤◌, nat_le, nat_lt, if◌then◌else◌, Bool, false, List, [], ◌∷◌, map, Option, Some, None}
use Rattle.std.specs.BinaryHeap.{heap_capacity, heap_len}
use Rattle.std.specs.List.{filter}
use Rattle.std.specs.List.Sorted.{IsPermutation}
use Rattle.std.specs.Ordering.{is_lt, nat_cmp, ordering_then}
use Rattle.std.specs.declared.cmp.Ordering.{Ordering}
use Rattle.std.specs.declared.cmp.Reverse.{Reverse}
use Rattle.std.specs.declared.collections.binary_heap.BinaryHeap.{BinaryHeap}
use Rattle.pfr_places.specs.declared.place.Place.{Place}
use Rattle.pfr_track.specs.declared.state.StateNumber.{StateNumber}
use Rattle.pfr_track.specs.declared.time.Clock.{Clock}
use Rattle.pfr_track.specs.declared.time.Deadline.{Deadline}

abbrev pub Wait : Type 0
Wait = Deadline × StateNumber × Place

-- by deadline, then by number, then by place
abbrev pub wait_cmp : Wait → Wait → Ordering
wait_cmp a b = ordering_then (ordering_then (nat_cmp a.0.0 b.0.0) (nat_cmp a.1.0 b.1.0)) (nat_cmp a.2.0 b.2.0)

abbrev pub reversed_cmp : Reverse Wait → Reverse Wait → Ordering
reversed_cmp a b = wait_cmp b.0 a.0

-- the second doesn't come before the first
abbrev pub IsBefore : Wait → Wait → Type 0
IsBefore a b = is_lt (wait_cmp b a) ≡ false

-- what contracts see of deadlines
pub record Waiting : Type 0 where
  pub waits : List Wait
  pub bound : ℕ
  pub room : ℕ

abbrev pub waits_of : List (Reverse Wait) → List Wait
waits_of items = map (λ wait. wait.0) items

abbrev pub room_of : {S : Type 0} → BinaryHeap (Reverse Wait) S → ℕ
room_of heap = heap_capacity heap - heap_len heap

abbrev pub head : List Wait → Option Wait
head [] = None
head (wait ∷ waits) = Some wait

-- a deadline that isn't below a bound
abbrev pub IsFrom : ℕ → Wait → Type 0
IsFrom bound wait = bound ≤ wait.0.0

abbrev pub first_below : ℕ → Option Wait → Option Wait
first_below bound None = None
first_below bound (Some wait) = if nat_lt wait.0.0 bound then Some wait else None

-- the state of the first deadline waits by another deadline in its place
pub record IsPutOff (first : Wait) (own : Deadline) (old new : List Wait) : Type 0 where
  pub rest : List Wait
  pub before : IsPermutation old (first ∷ rest)
  pub after : IsPermutation ((own, first.1, first.2) ∷ rest) new

-- the waits that have come at a clock
abbrev pub come_at : Clock → List Wait → List Wait
come_at clock waits = filter (λ wait. nat_le wait.0.0 clock.0) waits

-- for each wait the answer is what the test says
abbrev pub Decides : (Wait → Bool → Type 0) → (Wait → Bool) → Type 0
Decides answers test = (wait : Wait) (answer : Bool) → answers wait answer → answer ≡ test wait
