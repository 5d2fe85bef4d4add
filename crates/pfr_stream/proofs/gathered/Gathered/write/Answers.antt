use Rattle.std.proofs.Common.{◌∙◌, ap, subst, take}
use Rattle.pfr_capture.specs.Device.{GrewByPart}
use Rattle.pfr_stream.proofs.WritingLemmas.{breaks_none, on_err}
use Rattle.pfr_stream.proofs.gathered.Gathered.write.Goals as goal

pub returns-in_err-write_all-clause-part : goal.returns-in_err-write_all-clause-part
returns-in_err-write_all-clause-part g c =
    on_err c.from_residual.result (λ told. breaks_none _ _ _
    (subst (λ piece. GrewByPart (g.S.Sink.written c.args.sink.now) (g.S.Sink.written c.write_all.new.sink) piece)
    (ap (λ items. take c.self.inside.end items) c.deref.ensures.value ∙ c.self.view_is) (c.in_err-write_all.ensures.part told)))
