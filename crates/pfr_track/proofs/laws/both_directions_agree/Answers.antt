use Rattle.pfr_track.proofs.TrackingTurned.{touched_turned}
use Rattle.pfr_track.proofs.laws.both_directions_agree.Goals as goal

pub returns : goal.returns
returns c = touched_turned
