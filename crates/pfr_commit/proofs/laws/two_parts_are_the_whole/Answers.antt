use Rattle.pfr_commit.proofs.WorldLemmas.{world_append}
use Rattle.pfr_commit.proofs.laws.two_parts_are_the_whole.Goals as goal

pub returns : goal.returns
returns c = world_append
