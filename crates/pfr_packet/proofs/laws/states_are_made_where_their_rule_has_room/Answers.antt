use Rattle.pfr_packet.proofs.LimitLemmas.{made_with_room}
use Rattle.pfr_packet.proofs.laws.states_are_made_where_their_rule_has_room.Goals as goal

pub returns : goal.returns
returns c = made_with_room
