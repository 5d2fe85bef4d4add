use Rattle.std.proofs.Common.{take}
use Rattle.std.specs.List.{AllZip}
use Rattle.pfr_feed.specs.Batches.{IsViewOf}
use Rattle.pfr_work.proofs.views.views_in_turn.Given as goal

abbrev pub invariant-loop-record : goal.invariant-loop-record
invariant-loop-record l = AllZip IsViewOf (take l.record-index l.records) l.views.items
