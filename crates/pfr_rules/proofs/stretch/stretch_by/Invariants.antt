use Rattle.std.proofs.Common.{◌≤◌, ◌-◌}
use Rattle.pfr_rules.specs.Candidates.{IsFollowingIn}
use Rattle.pfr_rules.specs.Filter.{ruled}
use Rattle.pfr_rules.specs.Stretches.{NoneHolds}
use Rattle.pfr_rules.proofs.stretch.stretch_by.Given as goal

abbrev pub invariant-loop-from : goal.invariant-loop-from
invariant-loop-from l = record {
  from : l.place ≤ l.from;
  within : l.from ≤ l.end;
  fails : NoneHolds (ruled l.flat l.name l.packet l.direction) l.flat.filter.rules l.place l.from;
  followed : IsFollowingIn l.aids.index l.packet l.from l.trail;
}

abbrev pub decreases-loop-from : goal.decreases-loop-from
decreases-loop-from l = l.end - l.from
