use Rattle.std.proofs.Common.{◌≡◌, ◌≤◌, ◌*◌, ◌++◌, drop}
use Rattle.pfr_rules.specs.Evaluating.{Balances, counts_from}
use Rattle.pfr_rules.proofs.evaluations.counts_of.Given as goal

abbrev pub invariant-loop-tally : goal.invariant-loop-tally
invariant-loop-tally l = record {
  balances : Balances l.runs (drop l.tally-index l.tallies);
  few : l.runs ≤ l.tally-index * 18446744073709551615;
  counts : l.counts.items ++ counts_from l.runs (drop l.tally-index l.tallies) ≡ counts_from 0 l.tallies;
}
