use Rattle.std.proofs.Common.{rules}
use Rattle.pfr_track.specs.Tcp.{begun}
use Rattle.pfr_track.proofs.segment.Exchange.begin.Goals as goal

pub returns : goal.returns
unfolding begun
returns c = search rules
