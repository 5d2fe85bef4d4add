use Rattle.std.proofs.Common.{take}
use Rattle.pfr_messages.specs.Records as records
use Rattle.pfr_sync.specs.Events as events
use Rattle.pfr_sync.specs.Messages as messages
use Rattle.pfr_sync.proofs.GatherLemmas.{Gathers}
use Rattle.pfr_sync.proofs.telling.deletions_of.Given as goal

abbrev pub invariant-loop-place : goal.invariant-loop-place
invariant-loop-place l =
    Gathers messages.is_delete (λ entry. events.deletion_of l.origin entry.state) records.deletion.fits l.found.items (take l.place l.entries)
