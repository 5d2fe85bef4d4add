use Rattle.std.proofs.Common.{◌≡◌, ◌≤◌, ◌-◌, ◌++◌, take, drop, length}
use Rattle.pfr_sync.specs.Queues.{before_zero}
use Rattle.pfr_sync.proofs.names.letters.Given as goal

abbrev pub invariant-loop-end : goal.invariant-loop-end
invariant-loop-end l = record {
  within : l.end ≤ length l.name.bytes;
  name : before_zero l.name.bytes ≡ take l.end l.name.bytes ++ before_zero (drop l.end l.name.bytes);
}

abbrev pub decreases-loop-end : goal.decreases-loop-end
decreases-loop-end l = length l.name.bytes - l.end
