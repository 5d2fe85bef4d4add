use Rattle.pfr_packet.proofs.WayLemmas.{unwritten_of}
use Rattle.pfr_packet.proofs.laws.what_is_blocked_is_not_written.Goals as goal

pub returns : goal.returns
returns c = unwritten_of
