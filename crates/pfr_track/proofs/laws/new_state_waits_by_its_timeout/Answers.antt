use Rattle.pfr_track.proofs.TrackingMade.{new_state}
use Rattle.pfr_track.proofs.laws.new_state_waits_by_its_timeout.Goals as goal

pub returns : goal.returns
returns c = new_state
