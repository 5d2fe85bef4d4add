use Rattle.std.proofs.Common.{◌≡◌, take, fold}
use Rattle.std.specs.List.{flat_map}
use Rattle.pfr_rules.specs.Counts.{raised}
use Rattle.pfr_rules.specs.Evaluating.{Balances, counts_from}
use Rattle.pfr_rules.specs.Numbers.{numbers_from}
use Rattle.pfr_rules.proofs.visits.Visits.count_in.Given as goal

abbrev pub invariant-loop-run : goal.invariant-loop-run
invariant-loop-run l = record {
  counts : counts_from 0 l.tallies ≡ fold raised (counts_from 0 l.fn.tallies) (flat_map (λ run. numbers_from run.first run.count) (take l.run-index l.before));
  balances : Balances 0 l.tallies;
}
