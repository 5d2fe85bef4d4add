use Rattle.pfr_packet.specs.Steps.{step_of}
use Rattle.pfr_commit.proofs.book.Book.run.Goals as goal

pub returns : goal.returns
unfolding step_of
returns c = rw c.deref.ensures at c.in_ok-step_into.ensures.goes.outcome_is
