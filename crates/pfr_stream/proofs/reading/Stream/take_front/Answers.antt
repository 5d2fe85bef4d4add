use Rattle.std.proofs.lemmas.Result.{err_from_is_err_and}
use Rattle.pfr_stream.proofs.Framed.{refused_framed, refused_taken}
use Rattle.pfr_stream.proofs.reading.Stream.take_front.Goals as goal

pub returns-in_err-message-clause-which : goal.returns-in_err-message-clause-which
returns-in_err-message-clause-which c =
    let p = err_from_is_err_and c.from_residual.result c.from_residual.ensures.1 in
    rw (p.1, p.2, ← c.self.view_is, ← c.bytes.ensures.bytes) (refused_framed c.self.inside.framing c.self.inside.standby c.bytes.result.now c.in_err-message.field-0.0 c.in_err-message.ensures.exact)

pub returns-in_err-take-clause-which : goal.returns-in_err-take-clause-which
returns-in_err-take-clause-which c =
    let p = err_from_is_err_and c.from_residual-in_err-take.result c.from_residual-in_err-take.ensures.1 in
    rw (p.1, p.2, ← c.self.view_is, ← c.bytes.ensures.bytes) (refused_taken c.self.inside.framing c.self.inside.standby c.bytes.result.now _ c.in_err-take.field-0.0 c.in_ok-message.ensures.exact c.in_err-take.ensures.which)
