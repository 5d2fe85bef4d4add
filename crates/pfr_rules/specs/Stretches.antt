-- A stretch of rules that don't hold, which a walk visits as one run.
use Rattle.std.specs.Prelude.{◌≡◌, ◌<◌, ◌≤◌, ℕ, Bool, true, false, List, length, min, Option, Some, None}
use Rattle.std.specs.List.{slice_get, slice_index_or}
use Rattle.pfr_ruleset.specs.declared.flat.FlatAnchor.{FlatAnchor}
use Rattle.pfr_ruleset.specs.declared.filter_rules.RuleLists.{RuleLists}
use Rattle.pfr_ruleset.specs.Places.{opening_at}
use Rattle.pfr_ruleset.specs.declared.aids.FilterAids.{FilterAids}
use Rattle.pfr_ruleset.specs.Indexes.{AreOpenEnds}
use Rattle.pfr_rules.specs.Filter.{passes}

abbrev pub HoldsAt : {R : Type 0} → (R → Bool) → List R → ℕ → Type 0
HoldsAt ruled rules place = passes ruled (slice_get rules place) ≡ true

-- no rule from a place on and before another place holds
abbrev pub NoneHolds : {R : Type 0} → (R → Bool) → List R → ℕ → ℕ → Type 0
NoneHolds ruled rules from to = (q : ℕ) → from ≤ q → q < to → passes ruled (slice_get rules q) ≡ false

-- at none of these places an earlier hit ends a walk, by the rules and the anchors round them
abbrev pub NoneStops : RuleLists → ℕ → ℕ → Type 0
NoneStops lists from to = (q : ℕ) → from ≤ q → q < to → q ≤ opening_at lists.rules lists.anchors q

-- the same by the openings of the places
abbrev pub NoneOpens : List ℕ → ℕ → ℕ → Type 0
NoneOpens openings from to = (q : ℕ) → from ≤ q → q < to → q ≤ slice_index_or openings q 0

-- the place at which the next anchor begins, or the end
abbrev pub next_first : Option FlatAnchor → ℕ → ℕ
next_first None end = end
next_first (Some anchor) end = min anchor.first end

-- a place behind a rule that fails; no rule between holds
pub record IsBehind {R : Type 0} (ruled : R → Bool) (rules : List R) (place next : ℕ) : Type 0 where
  pub ahead : place < next
  pub within : next ≤ length rules
  pub fails : NoneHolds ruled rules place next

-- how far walks may go without a look at their last hit, for these openings
abbrev pub AreEndsFor : List ℕ → FilterAids → Type 0
AreEndsFor openings aids = AreOpenEnds openings aids.open_ends.items
