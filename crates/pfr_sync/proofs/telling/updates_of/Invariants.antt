use Rattle.std.proofs.Common.{take}
use Rattle.pfr_messages.specs.Records as records
use Rattle.pfr_sync.specs.Events as events
use Rattle.pfr_sync.specs.Messages as messages
use Rattle.pfr_sync.proofs.GatherLemmas.{Gathers}
use Rattle.pfr_sync.proofs.telling.updates_of.Given as goal

abbrev pub invariant-loop-place : goal.invariant-loop-place
invariant-loop-place l =
    Gathers messages.is_update (λ entry. events.update_of l.origin l.clock entry.state) records.update.fits l.found.items (take l.place l.entries)
