use Rattle.pfr_packet.proofs.ChangeLemmas.{own_change}
use Rattle.pfr_packet.proofs.laws.every_change_is_of_the_named_state.Goals as goal

pub returns : goal.returns
returns c = own_change c.what_a_packet_leaves.ensures
