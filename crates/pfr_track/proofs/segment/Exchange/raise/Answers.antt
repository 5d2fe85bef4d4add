use Rattle.std.proofs.Common.{rules}
use Rattle.pfr_track.specs.Tcp.{raised}
use Rattle.pfr_track.proofs.segment.Exchange.raise.Goals as goal

pub returns-else-is_rst : goal.returns-else-is_rst
unfolding raised
returns-else-is_rst c = search rules
