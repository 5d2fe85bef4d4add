use Rattle.std.proofs.Common.{refl, arith}
use Rattle.pfr_commit.specs.World.{opening, world_of}
use Rattle.pfr_commit.proofs.LimitLemmas.{rules_keep}
use Rattle.pfr_commit.proofs.laws.rules_keep_to_their_max.Goals as goal

pub returns : goal.returns
unfolding world_of opening
returns c = λ job frames by rule most at limit.
    rules_keep c.states_are_made_where_their_rule_has_room.ensures c.every_change_is_of_the_named_state.ensures c.no_change_is_refused.ensures job by rule most at limit (opening job) frames (record { in_order = refl; own_keys = refl; few = omega arith }) (omega arith)
