-- The slots are those whose entries are counted.
use Rattle.pfr_index.proofs.index.Index.fold_under.Goals as goal

pub returns : goal.returns
returns g c = rw (← c.self.view_is) (rw c.as_slice.ensures.value at c.fold_under.ensures)
