use Rattle.pfr_feed.proofs.TakeLemmas.{opening_count}
use Rattle.pfr_diff.proofs.side.Side.new.Goals as goal

pub returns-clause-none : goal.returns-clause-none
returns-clause-none c = opening_count _ c.in_ok-book.book c.in_ok-book.ensures.world
