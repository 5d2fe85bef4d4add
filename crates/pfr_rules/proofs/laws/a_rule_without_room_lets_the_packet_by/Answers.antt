use Rattle.pfr_rules.proofs.UnvisitedLemmas.{lets_by}
use Rattle.pfr_rules.proofs.laws.a_rule_without_room_lets_the_packet_by.Goals as goal

pub returns : goal.returns
returns c = lets_by
