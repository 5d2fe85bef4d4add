use Rattle.pfr_commit.specs.World.{origin_of}
use Rattle.pfr_commit.proofs.OnlineLemmas.{all_messages, online_grows}
use Rattle.pfr_commit.proofs.laws.what_is_written_stays.Goals as goal

pub returns-clause-stays : goal.returns-clause-stays
returns-clause-stays c = online_grows

pub returns-clause-last : goal.returns-clause-last
returns-clause-last c = λ job world. all_messages (origin_of job) world.clock world.events
