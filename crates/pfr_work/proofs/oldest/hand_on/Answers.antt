use Rattle.std.proofs.Common.{inr, refl}
use Rattle.pfr_work.proofs.oldest.hand_on.Goals as goal

pub returns-in_default-clause-taken : goal.returns-in_default-clause-taken
returns-in_default-clause-taken g c = λ is. (c.take.new.self, c.take.ensures.taken c.if-not-take.false, inr refl)
