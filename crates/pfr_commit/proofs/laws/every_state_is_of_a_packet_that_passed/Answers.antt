use Rattle.pfr_states.proofs.Membership.{in_none}
use Rattle.pfr_commit.specs.Runs.{taken_in}
use Rattle.pfr_commit.specs.World.{opening, world_of}
use Rattle.pfr_commit.proofs.TableLemmas.{states_after}
use Rattle.pfr_commit.proofs.laws.every_state_is_of_a_packet_that_passed.Goals as goal

pub returns : goal.returns
unfolding world_of opening
returns c = λ job frames state h.
    states_after c.every_change_is_of_the_named_state.ensures c.states_are_made_by_the_rules_named.ensures job (taken_in job frames) (opening job) frames (λ p at. at) (λ s at. absurd (in_none s at)) state h
