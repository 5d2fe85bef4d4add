use Rattle.pfr_commit.specs.Books.{StandsAt, job_of}
use Rattle.pfr_commit.specs.World.{World, online}
use Rattle.pfr_commit.proofs.StandLemmas.{nothing_behind}
use Rattle.pfr_diff.proofs.OkLemmas.{on_ok}
use Rattle.pfr_diff.proofs.side.Side.take.Goals as goal

pub returns-clause-lines : goal.returns-clause-lines
returns-clause-lines g c =
    on_ok c.commit_batch_alone.result (λ taken. λ (world : World) (stands : StandsAt c.args.self.now.book world).
    taken.told world (online (job_of c.args.self.now.book) world) stands (nothing_behind (online (job_of c.args.self.now.book) world) _ c.clear.ensures.texts))
    c.commit_batch_alone.ensures.taken
