use Rattle.std.proofs.Common.{◌≡◌, ◌≤◌, ◌-◌}
use Rattle.pfr_rules.specs.Candidates.{IsFollowingIn}
use Rattle.pfr_rules.specs.Searching.{held}
use Rattle.pfr_rules.specs.Stretches.{NoneHolds}
use Rattle.pfr_rules.proofs.searching.first_by.Given as goal

abbrev pub invariant-loop-from : goal.invariant-loop-from
invariant-loop-from g l = record {
  within : l.from ≤ l.end;
  fails : NoneHolds (held l.flat l.name l.packet) l.rules 0 l.from;
  visits : l.visits ≡ l.fn.visits;
  followed : IsFollowingIn l.aids.index l.packet l.from l.trail;
}

abbrev pub decreases-loop-from : goal.decreases-loop-from
decreases-loop-from g l = l.end - l.from
