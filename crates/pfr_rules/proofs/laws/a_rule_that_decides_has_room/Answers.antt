use Rattle.pfr_rules.proofs.RoomLemmas.{decides_with_room}
use Rattle.pfr_rules.proofs.laws.a_rule_that_decides_has_room.Goals as goal

pub returns : goal.returns
returns c = decides_with_room
