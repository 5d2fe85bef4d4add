use Rattle.std.proofs.Common.{◌∙◌, inl, inr, refl}
use Rattle.pfr_commit.specs.Books.{job_of}
use Rattle.pfr_published.specs.Ends.{is_shown as shows, list_of}
use Rattle.pfr_work.specs.Seen.{seen_of}
use Rattle.pfr_work.proofs.EndLemmas.{is_shown, refused_first}
use Rattle.pfr_work.proofs.beside.run_beside.Goals as goal

pub returns-in-Err-clause-err : goal.returns-in-Err-clause-err
returns-in-Err-clause-err g c =
    let none = c.no_trace-trace.ensures in
    refused_first g.F.Feed.transitions (job_of c.args.book) c.args.workers c.args.feed c.args.book c.args.feed _ c.requires.start refl (none.openings ∙ c.requires.openings) none.batches.0 none.batches.1 (rw none.published tt) (inr (rw none.published refl))

pub returns-in-Err-started-clause-err : goal.returns-in-Err-started-clause-err
returns-in-Err-started-clause-err g c =
    let none = c.no_trace-trace-in-Err-started.ensures in
    refused_first g.F.Feed.transitions (job_of c.args.book) c.args.workers c.args.feed c.args.book c.args.feed _ c.requires.start refl (none.openings ∙ c.requires.openings) none.batches.0 none.batches.1 (rw none.published c.in-Ok.ensures.list.0)
    (inl (is_shown c.args.workers (seen_of list_of shows c.no_trace-trace-in-Err-started.result) (rw none.published refl) (λ kept. rw none.published c.in-Ok.ensures.shown)))

pub returns-clause-ok : goal.returns-clause-ok
returns-clause-ok g c = rw (← c.in-Ok-started.ensures) c.run_turns.ensures.ok

pub returns-clause-err : goal.returns-clause-err
returns-clause-err g c = rw (← c.in-Ok-started.ensures) c.run_turns.ensures.err
