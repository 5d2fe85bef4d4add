use Rattle.std.proofs.Common.{◌≤◌, ◌-◌}
use Rattle.pfr_rules.specs.Filter.{ruled}
use Rattle.pfr_rules.specs.Stretches.{NoneHolds, NoneStops}
use Rattle.pfr_rules.proofs.stretch.stretch_of_each.Given as goal

abbrev pub invariant-loop-to : goal.invariant-loop-to
invariant-loop-to l = record {
  from : l.place ≤ l.to;
  within : l.to ≤ l.limit;
  fails : NoneHolds (ruled l.flat l.name l.packet l.direction) l.flat.filter.rules l.place l.to;
  stops : NoneStops l.flat.filter l.place l.to;
}

abbrev pub decreases-loop-to : goal.decreases-loop-to
decreases-loop-to l = l.limit - l.to
