use Rattle.std.proofs.Common.{◌≡◌, ◌≤◌, ◌-◌, ◌++◌, map, take}
use Rattle.pfr_ruleset.specs.TranslationAids.{number_of}
use Rattle.pfr_rules.proofs.searching.visit.Given as goal

abbrev pub invariant-loop-from : goal.invariant-loop-from
invariant-loop-from g l = record {
  within : l.from ≤ l.upto;
  visits : l.visits ≡ l.fn.visits ++ take l.from (map number_of l.rules);
}

abbrev pub decreases-loop-from : goal.decreases-loop-from
decreases-loop-from g l = l.upto - l.from
