use Rattle.pfr_packet.proofs.WayLemmas.{leave_of}
use Rattle.pfr_packet.proofs.laws.options_pass_only_by_leave.Goals as goal

pub returns : goal.returns
returns c = leave_of
