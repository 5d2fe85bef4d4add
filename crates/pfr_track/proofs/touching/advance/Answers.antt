use Rattle.std.proofs.Common.{rules}
use Rattle.pfr_track.specs.Tracking as spec
use Rattle.pfr_track.proofs.touching.advance.Goals as goal

pub returns-then-is_forth : goal.returns-then-is_forth
unfolding spec.touched
returns-then-is_forth c = search rules

pub returns-else-is_forth : goal.returns-else-is_forth
unfolding spec.touched
returns-else-is_forth c = search rules
