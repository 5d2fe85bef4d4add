use Rattle.pfr_headers.proofs.RewritingLemmas.{inner_brings, inner_written}
use Rattle.pfr_headers.proofs.rewriting.rewrite_inner.Goals as goal

pub returns-clause-written : goal.returns-clause-written
returns-clause-written c =
    let e = c.rewrite_header-addresses.ensures in
    inner_written c.args.bytes.now c.rewrite_header-addresses.new.bytes c.rewrite_embedded-embedded.new.bytes c.args.at c.args.inner.now c.args.end c.args.to _ c.requires e.written e.addresses (rw c.from.ensures at c.rewrite_embedded-embedded.ensures.written)

pub returns-clause-brings : goal.returns-clause-brings
returns-clause-brings c =
    let e = c.rewrite_header-addresses.ensures in
    inner_brings c.args.bytes.now c.rewrite_header-addresses.new.bytes c.args.at c.args.inner.now c.args.end c.args.to _ _ _ c.requires e.written e.addresses e.both (rw c.from.ensures at c.rewrite_embedded-embedded.ensures.brings)
