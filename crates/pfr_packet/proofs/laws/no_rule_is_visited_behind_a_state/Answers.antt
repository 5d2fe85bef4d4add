use Rattle.pfr_packet.proofs.WayLemmas.{none_visited_of}
use Rattle.pfr_packet.proofs.laws.no_rule_is_visited_behind_a_state.Goals as goal

pub returns : goal.returns
returns c = none_visited_of
