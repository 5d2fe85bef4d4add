use Rattle.pfr_track.proofs.TrackingLeft.{left_by}
use Rattle.pfr_track.proofs.laws.what_a_packet_leaves.Goals as goal

pub returns : goal.returns
returns c = left_by
