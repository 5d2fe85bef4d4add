use Rattle.pfr_rules.proofs.RoomLemmas.{same_rooms}
use Rattle.pfr_rules.proofs.laws.what_is_not_asked_says_nothing.Goals as goal

pub returns : goal.returns
returns c = same_rooms
