use Rattle.pfr_headers.proofs.RewritingLemmas.{error_written}
use Rattle.pfr_headers.proofs.rewriting.rewrite_error.Goals as goal

pub returns : goal.returns
returns c =
    error_written c.args.bytes.now c.rewrite_inner-carried.new.bytes c.mend.new.bytes c.rewrite_outer.new.bytes c.args.packet.now c.args.inner.now c.args.end c.args.to _ c.requires.header c.requires.inner
    (rw (c.from-at.ensures, c.other_end.ensures) at c.rewrite_inner-carried.ensures.written)
    (rw (c.from-at.ensures, c.other_end.ensures) at c.rewrite_inner-carried.ensures.brings)
    (rw c.from-at.ensures at c.mend.ensures.written)
    c.rewrite_outer.ensures
