use Rattle.std.proofs.Common.{rules}
use Rattle.pfr_track.specs.Tcp.{fits}
use Rattle.pfr_track.proofs.segment.Exchange.fits.Goals as goal

pub returns-then-is_at_least-2 : goal.returns-then-is_at_least-2
unfolding fits
returns-then-is_at_least-2 c = search rules

pub returns-else-is_at_least-2 : goal.returns-else-is_at_least-2
unfolding fits
returns-else-is_at_least-2 c = search rules
