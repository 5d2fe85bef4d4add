use Rattle.pfr_commit.specs.World.{opening, world_of}
use Rattle.pfr_commit.proofs.CountLemmas.{clock_of_run, none_later}
use Rattle.pfr_commit.proofs.laws.the_clock_is_the_greatest_second.Goals as goal

pub returns-clause-none_later : goal.returns-clause-none_later
unfolding world_of
returns-clause-none_later c = λ job frames. none_later job (opening job) frames

pub returns-clause-one_of_them : goal.returns-clause-one_of_them
returns-clause-one_of_them c = clock_of_run
