use Rattle.std.proofs.Common.{rules}
use Rattle.pfr_track.specs.Tracking.{followed}
use Rattle.pfr_track.proofs.touching.follow.Goals as goal

pub returns-then-not-fits : goal.returns-then-not-fits
unfolding followed
returns-then-not-fits c = search rules
