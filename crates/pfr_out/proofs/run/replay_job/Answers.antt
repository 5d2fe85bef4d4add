use Rattle.std.proofs.Common.{map}
use Rattle.std.proofs.lemmas.Result.{IfErr-weaker, IfOk-weaker}
use Rattle.pfr_merge.specs.MergeReading.{AllTold}
use Rattle.pfr_feed.specs.declared.report.Report.{Report}
use Rattle.pfr_feed.specs.declared.report.Stop.{Stop}
use Rattle.pfr_out.proofs.RunLemmas.{opening_fails, opening_untold, past_is_late, past_untold, refused_opening, stop_is_late}
use Rattle.pfr_out.proofs.run.replay_job.Goals as goal

pub returns-clause-ok : goal.returns-clause-ok
returns-clause-ok g c =
    IfOk-weaker c.replay_captures.result _ _ (λ (r : Report) p t.
    let o = c.in-Ok.ensures.opens t in
    let mid : AllTold (map g.R.Source.told c.open.new.self) = rw c.open.ensures.told t in
    rw (c.in-Ok-book_of.ensures.job, ← o.gave) at (p mid o.came o.has o.follow))
    c.replay_captures.ensures.ok

pub returns-clause-stopped : goal.returns-clause-stopped
returns-clause-stopped g c =
    IfErr-weaker c.replay_captures.result _ _ (λ (s : Stop) p t.
    let o = c.in-Ok.ensures.opens t in
    let mid : AllTold (map g.R.Source.told c.open.new.self) = rw c.open.ensures.told t in
    rw (c.in-Ok-book_of.ensures.job, ← o.gave) at (p mid o.came o.has o.follow))
    c.replay_captures.ensures.stopped

pub returns-in-Err-clause-stopped : goal.returns-in-Err-clause-stopped
returns-in-Err-clause-stopped g c =
    rw c.stop_for.ensures (λ t.
    refused_opening (record { job = c.args.job; form = c.args.settings.form }) c.args.settings.batch _ _ _ _ c.in-Err.refusal.0 c.in-Err.refusal.1 (c.in-Err.ensures.stops t))

pub returns-in-Err-clause-late : goal.returns-in-Err-clause-late
returns-in-Err-clause-late g c = rw c.stop_for.ensures (stop_is_late c.in-Err.refusal.0 c.in-Err.refusal.1 0)

pub returns-in-Err-clause-failure : goal.returns-in-Err-clause-failure
returns-in-Err-clause-failure g c = rw c.stop_for.ensures (opening_fails c.in-Err.refusal.0 c.in-Err.refusal.1 _ _ _ c.in-Err.ensures.failed)

pub returns-in-Err-clause-refused : goal.returns-in-Err-clause-refused
returns-in-Err-clause-refused g c = rw c.stop_for.ensures (opening_untold c.in-Err.refusal.0 c.in-Err.refusal.1 _ _)

pub returns-clause-refused : goal.returns-clause-refused
returns-clause-refused g c = IfErr-weaker c.replay_captures.result _ _ (λ (s : Stop) past. past_untold s _ _ _ past) c.replay_captures.ensures.past

pub returns-clause-late : goal.returns-clause-late
returns-clause-late g c = IfErr-weaker c.replay_captures.result _ _ (λ (s : Stop) past. past_is_late s past) c.replay_captures.ensures.past
