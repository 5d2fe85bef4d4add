use Rattle.std.proofs.Common.{◌∙◌, [], refl, arith}
use Rattle.pfr_commit.specs.Books.{job_of}
use Rattle.pfr_commit.specs.World.{opening}
use Rattle.pfr_commit.proofs.BookLemmas.{same_job}
use Rattle.pfr_feed.proofs.CallLemmas.{come_first}
use Rattle.pfr_feed.proofs.TakeLemmas.{opening_count}
use Rattle.pfr_feed.proofs.alone.run_alone.Goals as goal

pub turns-init : goal.turns-init
turns-init g c =
    let none = opening_count (job_of c.args.book) c.args.book c.requires.start in
    record {
      job = refl;
      few = omega (arith, none);
      told = refl;
      names = refl;
      so_far = record { calls = []; world = opening (job_of c.args.book); come = come_first g.F.Feed.transitions (job_of c.args.book) c.args.book c.args.feed c.requires.start };
    }

pub turns-preserved : goal.turns-preserved
turns-preserved g c =
    let i = c.turns.invariant in
    let turn = c.take_turn.ensures in
    record {
      job = turn.job ∙ i.job;
      few = turn.few c.in-GoesOn.is;
      told = turn.told ∙ i.told;
      names = turn.names ∙ i.names;
      so_far = rw c.in-GoesOn.is at (turn.comes (job_of c.args.book) c.args.feed (same_job c.turns.book c.args.book i.job) i.so_far);
    }

pub returns-in-IsOver-clause-ok : goal.returns-in-IsOver-clause-ok
returns-in-IsOver-clause-ok g c =
    let i = c.turns.invariant in
    rw c.in-IsOver.is at (c.take_turn.ensures.comes (job_of c.args.book) c.args.feed (same_job c.turns.book c.args.book i.job) i.so_far)

pub returns-in-IsRefused-clause-err : goal.returns-in-IsRefused-clause-err
returns-in-IsRefused-clause-err g c =
    let i = c.turns.invariant in
    rw c.in-IsRefused.is at (c.take_turn.ensures.comes (job_of c.args.book) c.args.feed (same_job c.turns.book c.args.book i.job) i.so_far)
