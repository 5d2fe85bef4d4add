-- What two rules write in common at one criterion.
use Rattle.std.specs.Prelude.{◌≡◌, ◌<◌, ◌≤◌, ℕ, List, length, Some, None}
use Rattle.std.specs.List.{slice_get}
use Rattle.pfr_ruleset.specs.declared.criterion.Criterion.{Criterion}
use Rattle.pfr_ruleset.specs.declared.criterion.Criterion.TheVariants as criterion
use Rattle.pfr_ruleset.specs.declared.criterion.Asked.{Asked}
use Rattle.pfr_ruleset.specs.declared.flat.FlatRule.{FlatRule}
use Rattle.pfr_ruleset.specs.declared.flat.FlatTranslation.{FlatTranslation}

-- what a filter rule asks for at the criteria by which rules are compared
abbrev pub asked_by : FlatRule → Asked
asked_by rule = record { direction = rule.direction; packet = rule.packet }

-- what a translation rule asks for; it writes no direction
abbrev pub asked_by_translation : {T : Type 0} → FlatTranslation T → Asked
asked_by_translation rule = record { direction = None; packet = rule.packet }

-- two rules write the same at a criterion
abbrev pub SameAt : Criterion → Asked → Asked → Type 0
SameAt criterion.Interface a b = a.packet.interface ≡ b.packet.interface
SameAt criterion.Direction a b = a.direction ≡ b.direction
SameAt criterion.Protocol a b = a.packet.protocol ≡ b.packet.protocol
SameAt criterion.Source a b = a.packet.source ≡ b.packet.source
SameAt criterion.SourcePort a b = a.packet.source_port ≡ b.packet.source_port
SameAt criterion.Destination a b = a.packet.destination ≡ b.packet.destination
SameAt criterion.DestinationPort a b = a.packet.destination_port ≡ b.packet.destination_port

-- from a place up to another one all rules write the same at a criterion
abbrev pub SameUpTo : Criterion → List Asked → ℕ → ℕ → Type 0
SameUpTo criterion asked place next =
    (k : ℕ) (a b : Asked) → place ≤ k → k < next → slice_get asked place ≡ Some a → slice_get asked k ≡ Some b → SameAt criterion a b

-- the next rule behind a place that writes something else at a criterion, or the number of rules
pub record IsSkip (criterion : Criterion) (asked : List Asked) (place next : ℕ) : Type 0 where
  pub ahead : place < next
  pub within : next ≤ length asked
  pub same : SameUpTo criterion asked place next
  pub other : (a b : Asked) → slice_get asked place ≡ Some a → slice_get asked next ≡ Some b → SameAt criterion a b → ⊥
