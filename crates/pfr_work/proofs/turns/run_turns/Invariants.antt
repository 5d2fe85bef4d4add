use Rattle.std.proofs.Common.{◌≡◌, false, true, vec_len}
use Rattle.pfr_commit.specs.Books.{job_of}
use Rattle.pfr_published.specs.Ends.{is_shown, list_of}
use Rattle.pfr_work.specs.Running.{FitsIn, HasRoom, IsSoFar, left_of}
use Rattle.pfr_work.proofs.turns.run_turns.Given as goal

abbrev pub invariant-turns : goal.invariant-turns
invariant-turns g l = record {
  job : l.run.book.job ≡ l.fn.book.job;
  told : g.F.Feed.told l.run.feed ≡ g.F.Feed.told l.fn.feed;
  names : g.F.Feed.names l.run.feed ≡ g.F.Feed.names l.fn.feed;
  fits : FitsIn (g.F.Feed.given l.run.feed) (vec_len l.crew.desks) l.run;
  room : HasRoom l.run;
  hidden : l.run.course.gave_up ≡ false → is_shown l.published ≡ true;
  so_far : IsSoFar g.F.Feed.transitions (job_of l.fn.book) (vec_len l.crew.desks) l.fn.feed l.run (list_of l.published);
}

abbrev pub decreases-turns : goal.decreases-turns
decreases-turns g l = left_of (g.F.Feed.given l.run.feed) l.run
