use Rattle.std.proofs.Common.{◌≡◌, ◌∙◌, ◌++◌, IsTrue, subst, sym}
use Rattle.std.proofs.lemmas.List.{append-nil}
use Rattle.std.proofs.lemmas.Result.{on_ok_weaker}
use Rattle.pfr_capture.specs.Device.{GrewByPart}
use Rattle.pfr_stream.proofs.WritingLemmas.{all_written, on_err, one_more, part_longer}
use Rattle.pfr_stream.specs.Lines.{line, lines}
use Rattle.pfr_stream.proofs.lines.write_lines.Goals as goal

pub loop-number-preserved : goal.loop-number-preserved
loop-number-preserved g c = record {
  told = c.in_ok-append_line.ensures.told ∙ c.loop-number.invariant.told;
  way = λ told.
      let w = c.loop-number.invariant.way told in
      let one = line c.in-Some.number.now c.in-Some.kept.now in (
        w.0 ++ one,
        c.in_ok-append_line.ensures.appended (subst (λ tells. IsTrue tells) (sym c.loop-number.invariant.told) told) _ _ w.1,
        one_more w.0 one (lines c.next.new.self) (lines c.args.standby.now)
            (subst (λ items. w.0 ++ lines items ≡ lines c.args.standby.now) c.in-Some.ensures.steps w.2),
      );
  failures = c.in_ok-append_line.ensures.ok ∙ c.loop-number.invariant.failures;
}

pub returns-in_err-append_line-clause-part : goal.returns-in_err-append_line-clause-part
returns-in_err-append_line-clause-part g c = on_err c.from_residual.result (λ told.
    let w = c.loop-number.invariant.way told in
    let one = line c.in-Some.number.now c.in-Some.kept.now in
    subst (λ text. GrewByPart (g.S.Sink.written c.args.sink.now) (g.S.Sink.written c.append_line.new.sink) text)
    (one_more w.0 one (lines c.next.new.self) (lines c.args.standby.now)
    (subst (λ items. w.0 ++ lines items ≡ lines c.args.standby.now) c.in-Some.ensures.steps w.2))
    (part_longer _ _ (w.0 ++ one) (lines c.next.new.self)
    (c.in_err-append_line.ensures.part (subst (λ tells. IsTrue tells) (sym c.loop-number.invariant.told) told) _ _ w.1)))

pub returns-clause-written : goal.returns-clause-written
returns-clause-written g c = on_ok_weaker c.write.result (λ wrote told.
    let w = c.loop-number.invariant.way told in
    let all : w.0 ≡ lines c.args.standby.now = sym (append-nil w.0) ∙ subst (λ items. w.0 ++ lines items ≡ lines c.args.standby.now) c.in-None.ensures.steps.0 w.2 in
    subst (λ text. g.S.Sink.written c.write.new.sink ≡ g.S.Sink.written c.args.sink.now ++ text) all
    (all_written _ _ w.0 (wrote (subst (λ tells. IsTrue tells) (sym c.loop-number.invariant.told) told) _ _ w.1))) c.write.ensures.written
