use Rattle.std.proofs.Common.{◌≡◌, ◌≤◌, length}
use Rattle.pfr_chains.specs.Chains as spec
use Rattle.pfr_chains.proofs.chains.lead.Given as goal

abbrev pub invariant-loop-place : goal.invariant-loop-place
invariant-loop-place l = record {
  within : l.place ≤ length l.keys;
  size : length l.firsts ≡ length l.fn.firsts;
  chains : spec.AreChainsFrom l.place l.keys l.firsts l.nexts;
}

abbrev pub decreases-loop-place : goal.decreases-loop-place
decreases-loop-place l = l.place
