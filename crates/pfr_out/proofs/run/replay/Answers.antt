use Rattle.std.proofs.Common.{rules}
use Rattle.std.proofs.lemmas.Result.{IfOk-weaker}
use Rattle.pfr_feed.specs.declared.report.Report.{Report}
use Rattle.pfr_feed.specs.declared.report.Stop.{Stop}
use Rattle.pfr_out.specs.Replay.{IsJob}
use Rattle.pfr_out.proofs.RunLemmas.{both_err, under_job}
use Rattle.pfr_out.proofs.run.replay.Goals as goal

pub returns-clause-ok : goal.returns-clause-ok
returns-clause-ok g c =
    IfOk-weaker c.replay_job.result _ _ (λ (r : Report) p.
    let inputs = c.in-Ok.ensures.inputs in
    let is : IsJob c.args.text.now c.args.seed c.args.settings.now c.in-Ok.job = record { text_is = inputs.0; interfaces_are = inputs.1; inside_is = inputs.2; seed_is = inputs.3; nothing_more = c.in-Ok.ensures.settings; rules_are = c.in-Ok.ensures.meaning } in
    record { job = c.in-Ok.job; is = is; hold = p })
    c.replay_job.ensures.ok

pub returns-clause-stopped : goal.returns-clause-stopped
returns-clause-stopped g c =
    let inputs = c.in-Ok.ensures.inputs in
    let is : IsJob c.args.text.now c.args.seed c.args.settings.now c.in-Ok.job = record { text_is = inputs.0; interfaces_are = inputs.1; inside_is = inputs.2; seed_is = inputs.3; nothing_more = c.in-Ok.ensures.settings; rules_are = c.in-Ok.ensures.meaning } in
    both_err c.replay_job.result _ _ _ (λ (s : Stop) p late.
    under_job c.args.text.now c.args.seed c.args.settings.now c.in-Ok.job _ _ _ _ _ _ s is late p)
    c.replay_job.ensures.stopped c.replay_job.ensures.late

pub returns-in-Err-clause-ok : goal.returns-in-Err-clause-ok
returns-in-Err-clause-ok g c = search rules
