use Rattle.pfr_packet.proofs.SettingLemmas.{followed_on_wire}
use Rattle.pfr_packet.proofs.laws.answers_on_the_wire_are_followed.Goals as goal

pub returns : goal.returns
returns c = followed_on_wire
