use Rattle.std.proofs.Common.{length}
use Rattle.pfr_ruleset.proofs.shape.+shape_place.Given as goal

abbrev pub decreases-shape_place : goal.decreases-shape_place
decreases-shape_place l = length l.shapes.now
