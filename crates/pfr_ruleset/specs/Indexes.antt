-- What is kept beside rules, so that a walk skips those that don't hold.
use Rattle.std.specs.Prelude.{◌≡◌, ◌<◌, ◌≤◌, ℕ, Bool, false, List, length, map, Option}
use Rattle.std.specs.List.{slice_index_or}
use Rattle.std.specs.Option.{ForSome}
use Rattle.pfr_ruleset.specs.declared.criterion.Asked.{Asked}
use Rattle.pfr_ruleset.specs.declared.index.Index.{Index}
use Rattle.pfr_ruleset.specs.declared.aids.Aids.{Aids}
use Rattle.pfr_ruleset.specs.declared.aids.FilterAids.{FilterAids}
use Rattle.pfr_ruleset.specs.Skipping.{HaveSkips}
use Rattle.pfr_ruleset.specs.Shapes.{key_of_rule}

-- ---- the index

-- rules are found by their keys; no index has more than 15 shapes
pub record IsIndex (asked : List Asked) (index : Index) : Type 0 where
  pub few : length index.shapes ≤ 15
  pub sized : 0 < index.size
  pub keys : index.chains ≡ map (key_of_rule index.shapes index.size) asked

abbrev pub MayBeIndex : List Asked → Option Index → Type 0
MayBeIndex asked index = ForSome index (IsIndex asked)

pub record AreAids (asked : List Asked) (aids : Aids) : Type 0 where
  pub skips : HaveSkips asked aids.skips
  pub index : MayBeIndex asked aids.index

-- ---- where walks may end

-- at each place that isn't a closing no hit before it ends a walk
pub record AreClosings (openings : List ℕ) (closings : List Bool) : Type 0 where
  pub size : length closings ≡ length openings
  pub each : (k : ℕ) → k < length openings → slice_index_or closings k false ≡ false → k ≤ slice_index_or openings k 0

-- a place behind another one, and between them none at which a hit before it ends a walk
pub record IsOpenEnd (openings : List ℕ) (place end : ℕ) : Type 0 where
  pub ahead : place < end
  pub within : end ≤ length openings
  pub stays : (k : ℕ) → place < k → k < end → k ≤ slice_index_or openings k 0

pub record AreOpenEnds (openings ends : List ℕ) : Type 0 where
  pub size : length ends ≡ length openings
  pub each : (place : ℕ) → place < length openings → IsOpenEnd openings place (slice_index_or ends place 0)

pub record AreFilterAids (asked : List Asked) (openings : List ℕ) (found : FilterAids) : Type 0 where
  pub rules : AreAids asked found.rules
  pub ends : AreOpenEnds openings found.open_ends.items
