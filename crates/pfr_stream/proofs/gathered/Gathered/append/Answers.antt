use Rattle.pfr_stream.proofs.WritingLemmas.{breaks_longer, on_err}
use Rattle.pfr_stream.proofs.gathered.Gathered.append.Goals as goal
use Rattle.std.specs.Prelude.{[]}

pub returns-in_err-write-clause-part : goal.returns-in_err-write-clause-part
returns-in_err-write-clause-part g c =
    on_err c.from_residual.result (λ told. breaks_longer [] c.args.piece.now _ _ _ (c.in_err-write.ensures.part told))
