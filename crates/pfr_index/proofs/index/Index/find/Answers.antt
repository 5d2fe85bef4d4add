-- What is found stands in a slot, and what stands in a slot is found.
use Rattle.pfr_index.proofs.FindLemmas.{none_counted, some_counts}
use Rattle.pfr_index.proofs.index.Index.find.Goals as goal

pub returns-clause-some : goal.returns-clause-some
returns-clause-some g c =
    rw
    (← c.self.view_is)
    (some_counts (goal.F-post g c.args.is_it) c.args.hash c.self.inside.slots.items c.find.result (rw c.as_slice.ensures.value at c.find.ensures.some))

pub returns-clause-none : goal.returns-clause-none
returns-clause-none g c =
    rw
    (← c.self.view_is)
    (none_counted (goal.F-post g c.args.is_it) c.args.hash c.self.inside.slots.items c.find.result (rw c.as_slice.ensures.value at c.find.ensures.none))
