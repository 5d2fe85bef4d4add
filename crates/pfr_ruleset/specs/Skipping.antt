-- What is kept of the skips of rules.
use Rattle.std.specs.Prelude.{◌≡◌, ◌≤◌, ℕ, List, length, Option, Some, None}
use Rattle.std.specs.List.{slice_get}
use Rattle.pfr_ruleset.specs.declared.criterion.Asked.{Asked}
use Rattle.pfr_ruleset.specs.declared.criterion.Criterion.{Criterion}
use Rattle.pfr_ruleset.specs.declared.criterion.Criterion.TheVariants as criterion
use Rattle.pfr_ruleset.specs.declared.skips.RuleSkips.{RuleSkips}
use Rattle.pfr_ruleset.specs.declared.skips.Skips.{Skips}
use Rattle.pfr_ruleset.specs.Criteria.{SameAt, IsSkip}

abbrev pub skip_at : Criterion → RuleSkips → ℕ
skip_at criterion.Interface skips = skips.interface
skip_at criterion.Direction skips = skips.direction
skip_at criterion.Protocol skips = skips.protocol
skip_at criterion.Source skips = skips.source
skip_at criterion.SourcePort skips = skips.source_port
skip_at criterion.Destination skips = skips.destination
skip_at criterion.DestinationPort skips = skips.destination_port

-- there is a next rule, and it writes the same at a criterion
abbrev pub GoesOn : Criterion → Asked → Option Asked → Type 0
GoesOn criterion here None = ⊥
GoesOn criterion here (Some next) = SameAt criterion here next

-- the skips of the rule at a place
abbrev pub HasSkips : List Asked → ℕ → RuleSkips → Type 0
HasSkips asked place skips = (criterion : Criterion) → IsSkip criterion asked place (skip_at criterion skips)

-- the skips of the rules from a place on
pub record HaveSkipsFrom (from : ℕ) (asked : List Asked) (skips : List RuleSkips) : Type 0 where
  pub size : length skips ≡ length asked
  pub each : (place : ℕ) (found : RuleSkips) → from ≤ place → slice_get skips place ≡ Some found → HasSkips asked place found

abbrev pub HaveSkips : List Asked → Skips → Type 0
HaveSkips asked skips = HaveSkipsFrom 0 asked skips.rules.items
