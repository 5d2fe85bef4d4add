use Rattle.pfr_commit.specs.World.{opening, world_of}
use Rattle.pfr_commit.proofs.CountLemmas.{frames_after, numbers_after, packets_after, verdicts_after}
use Rattle.pfr_commit.proofs.laws.every_packet_has_its_line.Goals as goal

pub returns-clause-frames : goal.returns-clause-frames
returns-clause-frames c = λ job frames. frames_after job (opening job) frames

pub returns-clause-numbers : goal.returns-clause-numbers
unfolding opening
returns-clause-numbers c = λ job frames. numbers_after job (opening job) frames

pub returns-clause-verdicts : goal.returns-clause-verdicts
unfolding world_of opening
returns-clause-verdicts c = λ job frames. verdicts_after job (opening job) frames

pub returns-clause-packets : goal.returns-clause-packets
unfolding world_of opening
returns-clause-packets c = λ job frames place. packets_after place job (opening job) frames
