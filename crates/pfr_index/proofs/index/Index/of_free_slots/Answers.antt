-- In free slots nothing stands.
use Rattle.pfr_index.proofs.CountLemmas.{times_of_free}
use Rattle.pfr_index.proofs.index.Index.of_free_slots.Goals as goal

pub returns-clause-times : goal.returns-clause-times
returns-clause-times c =
    λ entry. rw (c.in_ok-slots.ensures.items_if_clones_equal (λ y same. same)) (times_of_free c.args.count c.free.result c.free.ensures.unheld entry)
