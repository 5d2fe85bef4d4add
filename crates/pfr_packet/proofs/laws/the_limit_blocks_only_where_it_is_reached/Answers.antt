use Rattle.pfr_packet.proofs.WayLemmas.{limit_of}
use Rattle.pfr_packet.proofs.laws.the_limit_blocks_only_where_it_is_reached.Goals as goal

pub returns : goal.returns
returns c = limit_of
