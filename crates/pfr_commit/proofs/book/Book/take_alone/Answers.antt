use Rattle.pfr_commit.specs.Books.{StandsAt, job_of}
use Rattle.pfr_commit.specs.World.{World, online}
use Rattle.pfr_commit.proofs.StandLemmas.{nothing_behind}
use Rattle.pfr_commit.proofs.book.Book.take_alone.Goals as goal

pub returns-in-Ok-clause-told : goal.returns-in-Ok-clause-told
returns-in-Ok-clause-told c = λ (world : World) (stands : StandsAt c.args.self.now world).
    c.in-Ok.ensures.told world (online (job_of c.args.self.now) world) stands (nothing_behind (online (job_of c.args.self.now) world) _ c.new-out.ensures.texts)
