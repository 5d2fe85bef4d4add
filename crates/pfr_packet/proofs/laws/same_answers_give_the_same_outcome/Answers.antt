use Rattle.pfr_states.specs.Answers.{purged_at}
use Rattle.pfr_packet.specs.Steps.{asked_of, plan, step_of}
use Rattle.pfr_packet.proofs.Local.{local}
use Rattle.pfr_packet.proofs.laws.same_answers_give_the_same_outcome.Goals as goal

pub returns : goal.returns
unfolding step_of asked_of
returns c = λ job number clock place view table other h. local (purged_at clock table) (purged_at clock other) (plan job number clock place view) h
