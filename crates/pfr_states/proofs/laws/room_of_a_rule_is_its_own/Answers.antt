use Rattle.pfr_states.proofs.RuleLemmas.{others_say_nothing, purge_leaves_room}
use Rattle.pfr_states.proofs.laws.room_of_a_rule_is_its_own.Goals as goal

pub returns : goal.returns
returns c = record { others = others_say_nothing; purged = purge_leaves_room }
