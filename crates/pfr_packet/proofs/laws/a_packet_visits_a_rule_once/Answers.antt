use Rattle.pfr_packet.proofs.VisitLemmas.{visits_once}
use Rattle.pfr_packet.proofs.laws.a_packet_visits_a_rule_once.Goals as goal

pub returns : goal.returns
returns c = visits_once
