use Rattle.pfr_headers.proofs.RewritingLemmas.{packet_written}
use Rattle.pfr_headers.proofs.rewriting.rewrite_packet.Goals as goal

pub returns : goal.returns
returns c =
    let e = c.rewrite_header-addresses.ensures in
    packet_written c.args.bytes.now c.rewrite_header-addresses.new.bytes c.rewrite_behind.new.bytes c.args.packet.now c.args.end c.args.to _ c.requires.header.0 c.requires.header.1 e.written e.addresses (rw c.from-at.ensures at c.rewrite_behind.ensures)
