use Rattle.pfr_packet.proofs.BackLemmas.{brought_back}
use Rattle.pfr_packet.proofs.laws.answers_are_brought_back.Goals as goal

pub returns : goal.returns
returns c = brought_back
