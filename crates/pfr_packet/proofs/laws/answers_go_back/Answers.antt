use Rattle.pfr_headers.specs.declared.packet.View.TheVariants.{Ipv4}
use Rattle.pfr_packet.specs.Job.{direction_of}
use Rattle.pfr_packet.specs.Steps.{step_of}
use Rattle.pfr_packet.proofs.AnswerLemmas.{goes_back}
use Rattle.pfr_packet.proofs.ConnectionLemmas.{keyed_of}
use Rattle.pfr_packet.proofs.laws.answers_go_back.Goals as goal

pub returns : goal.returns
returns c = λ job number clock place packet answer table state is answers.
    goes_back (direction_of job place packet) packet answer (step_of job number clock place (Ipv4 packet) table).bytes state (keyed_of job number clock place packet table state is) answers
