use Rattle.std.proofs.Common.{◌≡◌, take}
use Rattle.pfr_sync.specs.Queues.{plain_names}
use Rattle.pfr_sync.proofs.names.plain_names.Given as goal

abbrev pub invariant-loop-place : goal.invariant-loop-place
invariant-loop-place l = l.plain ≡ plain_names (take l.place l.names)
