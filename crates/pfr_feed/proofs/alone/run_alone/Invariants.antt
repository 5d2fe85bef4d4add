use Rattle.std.proofs.Common.{◌≡◌, ◌≤◌, ◌-◌, ◌^◌}
use Rattle.pfr_commit.specs.Books.{job_of}
use Rattle.pfr_feed.specs.Turns.{SoFar}
use Rattle.pfr_feed.proofs.alone.run_alone.Given as goal

abbrev pub invariant-turns : goal.invariant-turns
invariant-turns g l = record {
  job : l.book.job ≡ l.fn.book.job;
  few : l.book.count ≤ g.F.Feed.given l.feed;
  told : g.F.Feed.told l.feed ≡ g.F.Feed.told l.fn.feed;
  names : g.F.Feed.names l.feed ≡ g.F.Feed.names l.fn.feed;
  so_far : SoFar g.F.Feed.transitions (job_of l.fn.book) l.fn.feed l.book l.feed;
}

abbrev pub decreases-turns : goal.decreases-turns
decreases-turns g l = 2 ^ 43 - g.F.Feed.given l.feed
