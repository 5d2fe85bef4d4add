use Rattle.std.proofs.Common.{◌∙◌, IsTrue, subst, sym}
use Rattle.std.proofs.lemmas.Result.{on_ok_weaker, on_err_weaker}
use Rattle.pfr_stream.proofs.WritingLemmas.{appends_both, breaks_longer, breaks_second, on_err}
use Rattle.pfr_stream.specs.Lines.{ends_part, keys_part, line}
use Rattle.pfr_stream.specs.Writing.{Appends, Breaks}
use Rattle.pfr_stream.proofs.lines.append_line.Goals as goal

pub returns-in_err-append-clause-part : goal.returns-in_err-append-clause-part
unfolding line
returns-in_err-append-clause-part g c =
    on_err c.from_residual.result (λ told. breaks_longer (keys_part c.args.number c.args.kept.now) (ends_part c.args.kept.now) _ _ _
    (subst (λ piece. Breaks piece c.args.gathered.now (g.S.Sink.written c.args.sink.now) (g.S.Sink.written c.append.new.sink))
    (c.as_slice.ensures ∙ c.keys_of.ensures.text) (c.in_err-append.ensures.part told)))

pub returns-clause-appended : goal.returns-clause-appended
unfolding line
returns-clause-appended g c = on_ok_weaker c.append-2.result (λ appended told.
    let first : Appends (keys_part c.args.number c.args.kept.now) c.args.gathered.now c.append.new.self (g.S.Sink.written c.args.sink.now) (g.S.Sink.written c.append.new.sink) =
    subst (λ piece. Appends piece c.args.gathered.now c.append.new.self (g.S.Sink.written c.args.sink.now) (g.S.Sink.written c.append.new.sink))
    (c.as_slice.ensures ∙ c.keys_of.ensures.text) (c.in_ok-append.ensures.appended told) in
    let second : Appends (ends_part c.args.kept.now) c.append.new.self c.append-2.new.self (g.S.Sink.written c.append.new.sink) (g.S.Sink.written c.append-2.new.sink) =
    subst (λ piece. Appends piece c.append.new.self c.append-2.new.self (g.S.Sink.written c.append.new.sink) (g.S.Sink.written c.append-2.new.sink))
    (c.as_slice-2.ensures ∙ c.ends_of.ensures.text) (appended (subst (λ tells. IsTrue tells) (sym c.in_ok-append.ensures.told) told)) in
    appends_both _ _ _ _ _ _ _ _ first second) c.append-2.ensures.appended

pub returns-clause-part : goal.returns-clause-part
unfolding line
returns-clause-part g c = on_err_weaker c.append-2.result (λ part told.
    let first : Appends (keys_part c.args.number c.args.kept.now) c.args.gathered.now c.append.new.self (g.S.Sink.written c.args.sink.now) (g.S.Sink.written c.append.new.sink) =
    subst (λ piece. Appends piece c.args.gathered.now c.append.new.self (g.S.Sink.written c.args.sink.now) (g.S.Sink.written c.append.new.sink))
    (c.as_slice.ensures ∙ c.keys_of.ensures.text) (c.in_ok-append.ensures.appended told) in
    let second : Breaks (ends_part c.args.kept.now) c.append.new.self (g.S.Sink.written c.append.new.sink) (g.S.Sink.written c.append-2.new.sink) =
    subst (λ piece. Breaks piece c.append.new.self (g.S.Sink.written c.append.new.sink) (g.S.Sink.written c.append-2.new.sink))
    (c.as_slice-2.ensures ∙ c.ends_of.ensures.text) (part (subst (λ tells. IsTrue tells) (sym c.in_ok-append.ensures.told) told)) in
    breaks_second _ _ _ _ _ _ _ first second) c.append-2.ensures.part
