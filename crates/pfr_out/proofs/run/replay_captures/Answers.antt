use Rattle.std.proofs.Common.{rules, ◌≡◌, ◌∙◌, ap, sym}
use Rattle.pfr_out.specs.declared.settings.Form.{Form}
use Rattle.pfr_out.specs.Taking.{run_in}
use Rattle.pfr_out.proofs.WholeLemmas.{replays_on, stops_on, stops_past}
use Rattle.pfr_out.proofs.RunLemmas.{headers_stopped}
use Rattle.pfr_out.proofs.run.replay_captures.Goals as goal

pub returns-in-Err-write_headers-clause-stopped : goal.returns-in-Err-write_headers-clause-stopped
returns-in-Err-write_headers-clause-stopped g c = λ t reads h may. headers_stopped (run_in c.args.book c.args.settings.form) c.args.settings.batch _ reads _ _ _ _ c.in-Err-write_headers.output h may (rw (c.as_slice.ensures.value ∙ c.in-Ok.ensures) at c.in-Err-write_headers.ensures.fails)

pub returns-clause-ok : goal.returns-clause-ok
returns-clause-ok g c =
    let run_is : run_in c.args.book c.args.settings.form ≡ run_in c.args.book c.args.channel.form = ap (λ (f : Form). run_in c.args.book f) (sym c.requires.form) in
    let sinks_are : c.sinks-1.given.0 ≡ c.finish.new.self.sinks.now = search rules in
    rw sinks_are
    (replays_on g.R.Source.told g.R.Source.unread g.R.Source.failures g.S.Sink.told g.S.Sink.written g.S.Sink.failures (run_in c.args.book c.args.settings.form) _ c.args.book c.run-feeding.result _ c.args.sinks.now c.finish.new.self.sinks.now c.finish.result
    c.run-feeding.ensures.over c.finish.ensures.stopped c.finish.ensures.concluded c.run-feeding.ensures.form c.run-feeding.ensures.told.1 run_is c.write_headers.ensures.told (rw (c.as_slice.ensures.value ∙ c.in-Ok.ensures) at c.in-Ok-write_headers.ensures.ok))

pub returns-clause-past : goal.returns-clause-past
returns-clause-past g c =
    stops_past g.R.Source.told g.R.Source.unread g.R.Source.failures g.S.Sink.told g.S.Sink.written g.S.Sink.failures (run_in c.args.book c.args.settings.form) _ c.args.book c.run-feeding.result _ c.finish.new.self.sinks.now c.finish.result
    c.run-feeding.ensures.over c.run-feeding.ensures.stopped c.finish.ensures.stopped c.finish.ensures.concluded

pub returns-clause-stopped : goal.returns-clause-stopped
returns-clause-stopped g c =
    let run_is : run_in c.args.book c.args.settings.form ≡ run_in c.args.book c.args.channel.form = ap (λ (f : Form). run_in c.args.book f) (sym c.requires.form) in
    let sinks_are : c.sinks-1.given.0 ≡ c.finish.new.self.sinks.now = search rules in
    let sources_are : c.sources-1.given.0 ≡ c.finish.new.self.sources.now = search rules in
    rw (sinks_are, sources_are)
    (stops_on g.R.Source.told g.R.Source.unread g.R.Source.failures g.S.Sink.told g.S.Sink.written g.S.Sink.failures (run_in c.args.book c.args.settings.form) _ c.args.book c.run-feeding.result _ c.finish.new.self.sources.now c.args.sinks.now c.finish.new.self.sinks.now c.finish.result
    c.run-feeding.ensures.over c.run-feeding.ensures.stopped c.finish.ensures.stopped c.finish.ensures.concluded c.finish.ensures.sources_stay c.run-feeding.ensures.form c.run-feeding.ensures.told.1 run_is c.write_headers.ensures.told (rw (c.as_slice.ensures.value ∙ c.in-Ok.ensures) at c.in-Ok-write_headers.ensures.ok))
