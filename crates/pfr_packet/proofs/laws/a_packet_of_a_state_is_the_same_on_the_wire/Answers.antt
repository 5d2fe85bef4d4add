use Rattle.pfr_packet.proofs.WireLemmas.{same_on_wire}
use Rattle.pfr_packet.proofs.laws.a_packet_of_a_state_is_the_same_on_the_wire.Goals as goal

pub returns : goal.returns
returns c = same_on_wire
