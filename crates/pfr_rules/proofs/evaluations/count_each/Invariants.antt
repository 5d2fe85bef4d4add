use Rattle.std.proofs.Common.{◌≡◌, fold}
use Rattle.pfr_rules.specs.Counts.{raised}
use Rattle.pfr_rules.specs.Evaluating.{Balances, counts_from}
use Rattle.pfr_rules.specs.Numbers.{numbers_from}
use Rattle.pfr_rules.proofs.evaluations.count_each.Given as goal

abbrev pub invariant-loop-index : goal.invariant-loop-index
invariant-loop-index l = record {
  counts : counts_from 0 l.tallies ≡ fold raised (counts_from 0 l.fn.tallies) (numbers_from l.first l.index);
  balances : Balances 0 l.tallies;
}
