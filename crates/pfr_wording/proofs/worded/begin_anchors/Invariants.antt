use Rattle.std.proofs.Common.{length}
use Rattle.pfr_wording.proofs.worded.begin_anchors.Given as goal

abbrev pub decreases-anchors : goal.decreases-anchors
decreases-anchors l = length l.anchors.now
