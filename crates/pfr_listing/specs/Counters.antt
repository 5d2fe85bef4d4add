-- The lines of counters that a run writes.
use Rattle.std.specs.Prelude.{ℕ, List, codes}
use Rattle.pfr_commit.specs.Endings.{rule_line}
use Rattle.pfr_wording.specs.declared.counts.Counted.{Counted}
use Rattle.pfr_listing.specs.declared.counted.RuleKind.{RuleKind}
use Rattle.pfr_listing.specs.declared.counted.RuleKind.TheVariants.{Filter, Translation}

-- the word with which lines of rules begin
abbrev pub word_of : RuleKind → List ℕ
word_of Filter = codes "filter"
word_of Translation = codes "translation"

-- what a run writes of the rule with a number, with the newline
abbrev pub counter_line : RuleKind → ℕ → Counted → List ℕ
counter_line kind number counted = rule_line (word_of kind) number counted.evaluations counted.packets counted.bytes
