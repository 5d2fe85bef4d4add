use Rattle.pfr_packet.proofs.ChangeLemmas.{blocked_removes}
use Rattle.pfr_packet.proofs.laws.what_is_blocked_only_removes.Goals as goal

pub returns : goal.returns
returns c = blocked_removes c.what_a_packet_leaves.ensures
