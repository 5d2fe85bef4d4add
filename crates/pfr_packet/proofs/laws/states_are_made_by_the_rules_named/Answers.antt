use Rattle.pfr_packet.proofs.RuleLemmas.{made_by_rules}
use Rattle.pfr_packet.proofs.laws.states_are_made_by_the_rules_named.Goals as goal

pub returns : goal.returns
returns c = made_by_rules
