use Rattle.std.proofs.Common.{List, sym, subst}
use Rattle.std.specs.List.{All}
use Rattle.pfr_commit.specs.Books.{job_of}
use Rattle.pfr_commit.specs.ResultsByPlace.{IsOfJob}
use Rattle.pfr_commit.specs.Results.{Group, results_of}
use Rattle.pfr_commit.proofs.ResultLemmas.{groups_of_job}
use Rattle.pfr_commit.proofs.book.Book.commit_batch_of_job.Goals as goal

pub take_batch-requires-clause-of_job : goal.take_batch-requires-clause-of_job
take_batch-requires-clause-of_job g c = λ lives within known.
    subst (λ (groups : List Group). All (IsOfJob (job_of c.args.self.now)) (results_of groups)) (sym c.as_slice.ensures.value)
    (groups_of_job (job_of c.args.self.now) c.args.groups.items c.requires.of_job)
