use Rattle.std.proofs.Common.{rules}
use Rattle.pfr_packet.proofs.keys.subject_of.Goals as goal

pub returns-in-Fragment : goal.returns-in-Fragment
returns-in-Fragment c = search rules
