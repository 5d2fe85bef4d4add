-- What is kept beside filter rules.
use Rattle.std.specs.Prelude.{ℕ, List, map, Option}
use Rattle.std.specs.Option.{ForSome}
use Rattle.pfr_ruleset.specs.declared.aids.FilterAids.{FilterAids}
use Rattle.pfr_ruleset.specs.declared.filter_rules.RuleLists.{RuleLists}
use Rattle.pfr_ruleset.specs.declared.flat.FlatRule.{FlatRule}
use Rattle.pfr_ruleset.specs.Criteria.{asked_by}
use Rattle.pfr_ruleset.specs.Indexes.{AreFilterAids}
use Rattle.pfr_ruleset.specs.Places.{HasOpenings}

-- what is kept beside rules and openings, if there is anything, is right
abbrev pub HaveFilterAids : List FlatRule → List ℕ → Option FilterAids → Type 0
HaveFilterAids rules openings aids = ForSome aids (AreFilterAids (map asked_by rules) openings)

-- it is right for some openings of the rules
abbrev pub HaveOwnAids : RuleLists → Option FilterAids → Type 0
HaveOwnAids lists aids = (openings : List ℕ) × HasOpenings lists.rules lists.anchors openings × HaveFilterAids lists.rules openings aids
