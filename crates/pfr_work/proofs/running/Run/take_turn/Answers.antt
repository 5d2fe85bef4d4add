use Rattle.std.proofs.Common.{vec_len}
use Rattle.pfr_published.specs.Ends.{list_of}
use Rattle.pfr_work.proofs.running.Run.take_turn.Goals as goal

pub returns-then-reads_ahead-clause-comes : goal.returns-then-reads_ahead-clause-comes
returns-then-reads_ahead-clause-comes g c = c.read_ahead-turn.ensures.comes (list_of c.args.published)

-- the oldest one is taken
pub take_oldest-requires-clause-over : goal.take_oldest-requires-clause-over
take_oldest-requires-clause-over g c = λ lives within. c.reads_ahead.ensures.no c.if-reads_ahead.false

pub take_oldest-requires-clause-fits : goal.take_oldest-requires-clause-fits
take_oldest-requires-clause-fits g c = λ lives within. (vec_len c.args.crew.now.desks, c.requires.fits)

pub returns-clause-fits : goal.returns-clause-fits
returns-clause-fits g c = λ goes. c.take_oldest.ensures.fits goes (vec_len c.args.crew.now.desks) c.requires.fits

pub returns-clause-comes : goal.returns-clause-comes
returns-clause-comes g c = c.take_oldest.ensures.comes (vec_len c.args.crew.now.desks)
