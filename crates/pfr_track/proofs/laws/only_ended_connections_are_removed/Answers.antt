use Rattle.pfr_track.proofs.TrackingRemoved.{have_closed}
use Rattle.pfr_track.proofs.laws.only_ended_connections_are_removed.Goals as goal

pub returns : goal.returns
returns c = have_closed
