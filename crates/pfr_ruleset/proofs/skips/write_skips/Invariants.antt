use Rattle.std.proofs.Common.{◌<◌, ◌≤◌, length}
use Rattle.pfr_ruleset.specs.Skipping as spec
use Rattle.pfr_ruleset.proofs.skips.write_skips.Given as goal

abbrev pub invariant-loop-place : goal.invariant-loop-place
invariant-loop-place l = record {
  within : l.place ≤ length l.asked;
  behind : l.place < length l.asked → spec.HasSkips l.asked l.place l.behind;
  written : spec.HaveSkipsFrom l.place l.asked l.skips;
}

abbrev pub decreases-loop-place : goal.decreases-loop-place
decreases-loop-place l = l.place
