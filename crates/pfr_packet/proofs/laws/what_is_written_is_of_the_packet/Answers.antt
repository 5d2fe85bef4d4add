use Rattle.pfr_packet.proofs.BytesLemmas.{written_of}
use Rattle.pfr_packet.proofs.laws.what_is_written_is_of_the_packet.Goals as goal

pub returns : goal.returns
returns c = written_of
