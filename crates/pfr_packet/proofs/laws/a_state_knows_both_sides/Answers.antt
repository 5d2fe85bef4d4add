use Rattle.pfr_headers.specs.declared.packet.View.TheVariants.{Ipv4}
use Rattle.pfr_packet.specs.Job.{direction_of}
use Rattle.pfr_packet.specs.Steps.{step_of}
use Rattle.pfr_packet.proofs.AnswerLemmas.{knows}
use Rattle.pfr_packet.proofs.ConnectionLemmas.{keyed_of}
use Rattle.pfr_packet.proofs.laws.a_state_knows_both_sides.Goals as goal

pub returns : goal.returns
returns c = λ job number clock place packet table state is.
    knows (direction_of job place packet) packet (step_of job number clock place (Ipv4 packet) table).bytes state (keyed_of job number clock place packet table state is)
