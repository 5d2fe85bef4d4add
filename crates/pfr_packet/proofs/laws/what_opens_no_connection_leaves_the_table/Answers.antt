use Rattle.pfr_packet.proofs.WayLemmas.{no_state_of}
use Rattle.pfr_packet.proofs.laws.what_opens_no_connection_leaves_the_table.Goals as goal

pub returns : goal.returns
returns c = no_state_of
