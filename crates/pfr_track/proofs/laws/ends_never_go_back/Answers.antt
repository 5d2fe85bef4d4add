use Rattle.pfr_track.proofs.TrackingEnds.{moved_on}
use Rattle.pfr_track.proofs.laws.ends_never_go_back.Goals as goal

pub returns : goal.returns
returns c = moved_on
