-- If a slot is free, the search ends there.
use Rattle.std.proofs.Common.{◌∙◌, sym}
use Rattle.pfr_index.proofs.FindLemmas.{end_at}
use Rattle.pfr_index.proofs.search.search.Goals as goal

pub returns-then-is_free : goal.returns-then-is_free
returns-then-is_free g c =
    end_at
    (goal.F-post g c.args.is_it.now)
    c.args.hash
    c.args.slots.now
    c.loop-slot.slot-index
    _
    c.loop-slot-test.true
    (sym c.is_free.ensures ∙ c.if-is_free.true)
    c.loop-slot.invariant
