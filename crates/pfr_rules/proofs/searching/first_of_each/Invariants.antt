use Rattle.std.proofs.Common.{◌≡◌, ◌≤◌, ◌-◌, length}
use Rattle.pfr_rules.specs.Searching.{held}
use Rattle.pfr_rules.specs.Stretches.{NoneHolds}
use Rattle.pfr_rules.proofs.searching.first_of_each.Given as goal

abbrev pub invariant-loop-place : goal.invariant-loop-place
invariant-loop-place g l = record {
  within : l.place ≤ length l.rules;
  fails : NoneHolds (held l.flat l.name l.packet) l.rules 0 l.place;
  visits : l.visits ≡ l.fn.visits;
}

abbrev pub decreases-loop-place : goal.decreases-loop-place
decreases-loop-place g l = length l.rules - l.place
