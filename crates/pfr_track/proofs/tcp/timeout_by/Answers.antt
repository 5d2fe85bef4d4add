use Rattle.std.proofs.Common.{rules}
use Rattle.pfr_track.proofs.tcp.timeout_by.Goals as goal

pub returns-then-one : goal.returns-then-one
returns-then-one c = search rules
