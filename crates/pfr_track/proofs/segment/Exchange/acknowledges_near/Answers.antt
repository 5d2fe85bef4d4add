use Rattle.std.proofs.Common.{rules}
use Rattle.pfr_track.proofs.segment.Exchange.acknowledges_near.Goals as goal

pub returns-then-behind-lt2147483648 : goal.returns-then-behind-lt2147483648
returns-then-behind-lt2147483648 c = search rules
