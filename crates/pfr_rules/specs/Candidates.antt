-- The rules that may hold for a packet, by what they pin.
use Rattle.std.specs.Prelude.{◌≡◌, ◌≢◌, ◌<◌, ◌≤◌, ⊤, ℕ, List, length, Option, Some, None}
use Rattle.std.specs.List.{slice_get, slice_index_or}
use Rattle.pfr_chains.specs.Chains.{IsNext}
use Rattle.pfr_ruleset.specs.declared.aids.FilterAids.{FilterAids}
use Rattle.pfr_ruleset.specs.declared.index.Index.{Index}
use Rattle.pfr_ruleset.specs.Shapes.{key, shape_at}
use Rattle.pfr_headers.specs.declared.packet.Packet.{Packet}
use Rattle.pfr_criteria.specs.Pins.{pins_in}
use Rattle.pfr_rules.specs.declared.candidates.Trail.{Trail}

-- the key of what a packet has of the shape at a place
abbrev pub key_in : Index → Packet → ℕ → ℕ
key_in index packet shape = key shape (pins_in (shape_at index.shapes shape) packet) index.size

-- a place is the first with the packet's key of a shape, from some place on that isn't behind `from`
pub record IsFollowed (index : Index) (packet : Packet) (from shape place : ℕ) : Type 0 where
  pub low : ℕ
  pub before : low ≤ from
  pub next : IsNext index.chains (key_in index packet shape) low place

-- the packet follows the chain of each shape; behind the last shape comes the chain of the rules that pin nothing
abbrev pub AreFollowed : Index → Packet → ℕ → List ℕ → Type 0
AreFollowed index packet from places = (shape : ℕ) → shape ≤ length index.shapes → IsFollowed index packet from shape (slice_index_or places shape 0)

-- no rule from a place on and before another place has the packet's key of a shape
abbrev pub NoneHasKey : Index → Packet → ℕ → ℕ → ℕ → Type 0
NoneHasKey index packet from to shape = (k : ℕ) → from ≤ k → k < to → slice_get index.chains k ≢ Some (key_in index packet shape)

-- no such rule has the packet's key of any shape
abbrev pub NoneIsCandidate : Index → Packet → ℕ → ℕ → Type 0
NoneIsCandidate index packet from to = (shape : ℕ) → shape ≤ length index.shapes → NoneHasKey index packet from to shape

-- the packet follows its chains from a place on; no rule before `pinned` is on a chain of a shape
pub record IsFollowing (index : Index) (packet : Packet) (from : ℕ) (trail : Trail) : Type 0 where
  pub chains : AreFollowed index packet from trail.places
  pub low : ℕ
  pub before : low ≤ from
  pub within : trail.pinned ≤ length index.chains
  pub pinned : (shape : ℕ) → shape < length index.shapes → NoneHasKey index packet low trail.pinned shape

-- without an index all rules are candidates
abbrev pub IsFollowingIn : Option Index → Packet → ℕ → Trail → Type 0
IsFollowingIn None packet from trail = ⊤
IsFollowingIn (Some index) packet from trail = IsFollowing index packet from trail

abbrev pub IsFollowingBy : Option FilterAids → Packet → ℕ → Trail → Type 0
IsFollowingBy None packet from trail = ⊤
IsFollowingBy (Some aids) packet from trail = IsFollowingIn aids.rules.index packet from trail

-- the first candidate at or behind a place, and the packet's places then
pub record IsCandidate (index : Index) (packet : Packet) (from candidate : ℕ) (trail : Trail) : Type 0 where
  pub ahead : from ≤ candidate
  pub within : candidate ≤ length index.chains
  pub none : NoneIsCandidate index packet from candidate
  pub followed : IsFollowing index packet from trail

-- for each packet that follows its chains from a place on, the next candidate is found
abbrev pub FindsCandidate : Index → ℕ → Trail → ℕ → Trail → Type 0
FindsCandidate index from before candidate after = (packet : Packet) → IsFollowing index packet from before → IsCandidate index packet from candidate after

-- a place up to which an index may be asked
abbrev pub IsIndexFit : Option Index → ℕ → Type 0
IsIndexFit None from = ⊤
IsIndexFit (Some index) from = (length index.shapes ≤ 15) × (from ≤ length index.chains)

-- an index that can be followed from the first rule on
abbrev pub IsIndexRight : Option Index → Type 0
IsIndexRight None = ⊤
IsIndexRight (Some index) = (length index.shapes ≤ 15) × (0 < index.size)

-- the same as `FindsCandidate`, except that without an index the place itself is a candidate
abbrev pub FindsAsked : Option Index → ℕ → Trail → ℕ → Trail → Type 0
FindsAsked None from before candidate after = candidate ≡ from
FindsAsked (Some index) from before candidate after = FindsCandidate index from before candidate after

-- ---- while the chains are gone along

-- the first `bound` chains have been begun, and `least` is the least of their first rules
pub record IsBegun (bound : ℕ) (index : Index) (packet : Packet) (least : ℕ) (places : List ℕ) : Type 0 where
  pub within : least ≤ length index.chains
  pub none : (shape : ℕ) → shape < bound → NoneHasKey index packet 0 least shape
  pub followed : (shape : ℕ) → shape < bound → IsFollowed index packet 0 shape (slice_index_or places shape 0)

-- the first `bound` chains have been gone along, and `least` is the least of their places
pub record IsPassed (bound : ℕ) (index : Index) (packet : Packet) (from least : ℕ) (places : List ℕ) : Type 0 where
  pub ahead : from ≤ least
  pub within : least ≤ length index.chains
  pub none : (shape : ℕ) → shape < bound → NoneHasKey index packet from least shape
  pub followed : AreFollowed index packet from places

abbrev pub PassesBelow : ℕ → Index → ℕ → List ℕ → ℕ → List ℕ → Type 0
PassesBelow bound index from before least places = (packet : Packet) → AreFollowed index packet from before → IsPassed bound index packet from least places

-- the least place of the pinned chains is at or behind `from`
abbrev pub IsBroughtUp : Index → ℕ → Trail → Trail → Type 0
IsBroughtUp index from before after = (packet : Packet) → IsFollowing index packet from before → IsFollowing index packet from after × (from ≤ after.pinned)
