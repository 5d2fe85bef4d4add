use Rattle.std.proofs.Common.{◌≤◌, length}
use Rattle.pfr_chains.specs.Runs as spec
use Rattle.pfr_chains.proofs.runs.mark_ends.Given as goal

abbrev pub invariant-loop-place : goal.invariant-loop-place
invariant-loop-place l = record {
  within : l.place ≤ length l.begins;
  next : spec.IsBeginFrom l.begins l.place l.end;
  marked : spec.AreRunEndsFrom l.place l.begins l.ends;
}

abbrev pub decreases-loop-place : goal.decreases-loop-place
decreases-loop-place l = l.place
