use Rattle.std.proofs.Common.{◌∙◌, Option, IfSome, ap, map, refl, subst, sym}
use Rattle.pfr_feed.specs.declared.report.Stop.{Stop}
use Rattle.pfr_commit.specs.Books.{job_of}
use Rattle.pfr_published.specs.Ends.{is_shown, list_of}
use Rattle.pfr_work.specs.Seen.{seen_of}
use Rattle.pfr_work.proofs.EndLemmas as traces
use Rattle.pfr_out.specs.Feedings.{RunStops, stop_of, transitions_of}
use Rattle.pfr_out.specs.Outputs.{each_of}
use Rattle.pfr_out.specs.Taking.{run_in}
use Rattle.pfr_out.proofs.FeedingLemmas.{at_moved, ends_well, kept_err, kept_ok, some_weaker, stops, stops_refused}
use Rattle.pfr_out.proofs.feeding.Feeding.run.Goals as goal

pub returns-in-Ok-clause-over : goal.returns-in-Ok-clause-over
returns-in-Ok-clause-over g c =
    λ none.
    let ran = c.run_workers-book.result in
    let e = ends_well g.R.Source.told g.R.Source.unread g.R.Source.failures g.S.Sink.told g.S.Sink.written g.S.Sink.failures (run_in c.args.book c.args.self.channel.now.form) c.args.self refl (sym c.requires.address)
    ran.0 ran.1 c.requires.fresh (traces.ends_well (transitions_of g.R.Source.told g.R.Source.unread g.R.Source.failures g.S.Sink.told g.S.Sink.written g.S.Sink.failures) (job_of c.args.book) c.args.workers c.args.self ran.0 ran.1 (seen_of list_of is_shown ran.2) (rw c.in-Ok.is at c.run_workers-book.ensures.ok)) none in
    record {
      end = e.end;
      last = ran.0;
      end_is = e.end_is;
      last_is = c.replace.ensures.after;
      job = c.run_workers-book.ensures.job;
      reaches = e.reaches;
      failed = e.failed;
      sinks_failed = e.sinks_failed;
    }

pub returns-in-Ok-clause-told : goal.returns-in-Ok-clause-told
returns-in-Ok-clause-told g c =
    let ran = c.run_workers-book.result in
    let k = kept_ok g.R.Source.told g.R.Source.unread g.R.Source.failures g.S.Sink.told g.S.Sink.written g.S.Sink.failures (run_in c.args.book c.args.self.channel.now.form) c.args.self refl (sym c.requires.address)
    ran.0 ran.1 c.requires.fresh (traces.ends_well (transitions_of g.R.Source.told g.R.Source.unread g.R.Source.failures g.S.Sink.told g.S.Sink.written g.S.Sink.failures) (job_of c.args.book) c.args.workers c.args.self ran.0 ran.1 (seen_of list_of is_shown ran.2) (rw c.in-Ok.is at c.run_workers-book.ensures.ok)) in
    (k.source_told, k.sinks_told)

pub returns-in-Ok-clause-messages : goal.returns-in-Ok-clause-messages
returns-in-Ok-clause-messages g c =
    let ran = c.run_workers-book.result in
    (kept_ok g.R.Source.told g.R.Source.unread g.R.Source.failures g.S.Sink.told g.S.Sink.written g.S.Sink.failures (run_in c.args.book c.args.self.channel.now.form) c.args.self refl (sym c.requires.address)
    ran.0 ran.1 c.requires.fresh (traces.ends_well (transitions_of g.R.Source.told g.R.Source.unread g.R.Source.failures g.S.Sink.told g.S.Sink.written g.S.Sink.failures) (job_of c.args.book) c.args.workers c.args.self ran.0 ran.1 (seen_of list_of is_shown ran.2) (rw c.in-Ok.is at c.run_workers-book.ensures.ok))).messages

pub returns-in-Ok-clause-form : goal.returns-in-Ok-clause-form
returns-in-Ok-clause-form g c =
    let ran = c.run_workers-book.result in
    (kept_ok g.R.Source.told g.R.Source.unread g.R.Source.failures g.S.Sink.told g.S.Sink.written g.S.Sink.failures (run_in c.args.book c.args.self.channel.now.form) c.args.self refl (sym c.requires.address)
    ran.0 ran.1 c.requires.fresh (traces.ends_well (transitions_of g.R.Source.told g.R.Source.unread g.R.Source.failures g.S.Sink.told g.S.Sink.written g.S.Sink.failures) (job_of c.args.book) c.args.workers c.args.self ran.0 ran.1 (seen_of list_of is_shown ran.2) (rw c.in-Ok.is at c.run_workers-book.ensures.ok))).form

pub returns-in-Ok-clause-stopped : goal.returns-in-Ok-clause-stopped
returns-in-Ok-clause-stopped g c =
    let ran = c.run_workers-book.result in
    some_weaker (stop_of ran.1) _ _ (λ (why : Stop) s. record { stopped = s.stopped; late = s.late; failed = s.failed })
    (stops g.R.Source.told g.R.Source.unread g.R.Source.failures g.S.Sink.told g.S.Sink.written g.S.Sink.failures (run_in c.args.book c.args.self.channel.now.form) c.args.self refl (sym c.requires.address)
    ran.0 ran.1 c.requires.fresh (traces.ends_well (transitions_of g.R.Source.told g.R.Source.unread g.R.Source.failures g.S.Sink.told g.S.Sink.written g.S.Sink.failures) (job_of c.args.book) c.args.workers c.args.self ran.0 ran.1 (seen_of list_of is_shown ran.2) (rw c.in-Ok.is at c.run_workers-book.ensures.ok)))

pub returns-in-Err-clause-told : goal.returns-in-Err-clause-told
returns-in-Err-clause-told g c =
    let ran = c.run_workers-book.result in
    let k = kept_err g.R.Source.told g.R.Source.unread g.R.Source.failures g.S.Sink.told g.S.Sink.written g.S.Sink.failures (run_in c.args.book c.args.self.channel.now.form) c.args.self refl (sym c.requires.address)
    ran.0 ran.1 c.requires.fresh (traces.ends_refused (transitions_of g.R.Source.told g.R.Source.unread g.R.Source.failures g.S.Sink.told g.S.Sink.written g.S.Sink.failures) (job_of c.args.book) c.args.workers c.args.self ran.0 ran.1 (seen_of list_of is_shown ran.2) (rw c.in-Err.is at c.run_workers-book.ensures.err)) in
    (ap (map g.R.Source.told) c.without_memory.ensures.sources ∙ k.source_told, ap (each_of g.S.Sink.told) c.without_memory.ensures.sinks ∙ k.sinks_told)

pub returns-in-Err-clause-messages : goal.returns-in-Err-clause-messages
returns-in-Err-clause-messages g c =
    let ran = c.run_workers-book.result in
    rw c.without_memory.ensures.sinks
    (kept_err g.R.Source.told g.R.Source.unread g.R.Source.failures g.S.Sink.told g.S.Sink.written g.S.Sink.failures (run_in c.args.book c.args.self.channel.now.form) c.args.self refl (sym c.requires.address)
    ran.0 ran.1 c.requires.fresh (traces.ends_refused (transitions_of g.R.Source.told g.R.Source.unread g.R.Source.failures g.S.Sink.told g.S.Sink.written g.S.Sink.failures) (job_of c.args.book) c.args.workers c.args.self ran.0 ran.1 (seen_of list_of is_shown ran.2) (rw c.in-Err.is at c.run_workers-book.ensures.err))).messages

pub returns-in-Err-clause-form : goal.returns-in-Err-clause-form
returns-in-Err-clause-form g c =
    let ran = c.run_workers-book.result in
    c.without_memory.ensures.form
    ∙ (kept_err g.R.Source.told g.R.Source.unread g.R.Source.failures g.S.Sink.told g.S.Sink.written g.S.Sink.failures (run_in c.args.book c.args.self.channel.now.form) c.args.self refl (sym c.requires.address)
    ran.0 ran.1 c.requires.fresh (traces.ends_refused (transitions_of g.R.Source.told g.R.Source.unread g.R.Source.failures g.S.Sink.told g.S.Sink.written g.S.Sink.failures) (job_of c.args.book) c.args.workers c.args.self ran.0 ran.1 (seen_of list_of is_shown ran.2) (rw c.in-Err.is at c.run_workers-book.ensures.err))).form

pub returns-in-Err-clause-stopped : goal.returns-in-Err-clause-stopped
returns-in-Err-clause-stopped g c =
    let ran = c.run_workers-book.result in
    let s = at_moved g.R.Source.told g.R.Source.unread g.R.Source.failures g.S.Sink.told g.S.Sink.written g.S.Sink.failures (run_in c.args.book c.args.self.channel.now.form) c.args.self refl (sym c.requires.address) ran.1 c.without_memory.result _
    c.without_memory.ensures.sources c.without_memory.ensures.sinks
    (stops_refused g.R.Source.told g.R.Source.unread g.R.Source.failures g.S.Sink.told g.S.Sink.written g.S.Sink.failures (run_in c.args.book c.args.self.channel.now.form) c.args.self refl (sym c.requires.address)
    ran.0 ran.1 c.requires.fresh (traces.ends_refused (transitions_of g.R.Source.told g.R.Source.unread g.R.Source.failures g.S.Sink.told g.S.Sink.written g.S.Sink.failures) (job_of c.args.book) c.args.workers c.args.self ran.0 ran.1 (seen_of list_of is_shown ran.2) (rw c.in-Err.is at c.run_workers-book.ensures.err))) in
    subst (λ (o : Option Stop). IfSome o (λ why. RunStops g.R.Source.told g.R.Source.unread g.R.Source.failures g.S.Sink.told g.S.Sink.written g.S.Sink.failures c.args.book c.args.self c.without_memory.result why)) (sym c.without_memory.ensures.stop)
    (record { stopped = s.stopped; late = s.late; failed = s.failed })
