use Rattle.std.proofs.Common.{sym}
use Rattle.pfr_headers.proofs.RewritingLemmas.{header_room, inner_room, transport_room}
use Rattle.pfr_headers.proofs.rewriting.rewrite_datagram.Goals as goal

pub rewrite_error-requires-clause-header : goal.rewrite_error-requires-clause-header
rewrite_error-requires-clause-header c = (header_room c.args.bytes.now c.args.change.now.packet c.requires).0

pub rewrite_error-requires-clause-inner : goal.rewrite_error-requires-clause-inner
rewrite_error-requires-clause-inner c = inner_room c.args.bytes.now c.args.change.now.packet c.in-Some.inner c.requires (sym c.in-Some.ensures)

pub rewrite_packet-requires-clause-header : goal.rewrite_packet-requires-clause-header
rewrite_packet-requires-clause-header c = header_room c.args.bytes.now c.args.change.now.packet c.requires

pub rewrite_packet-requires-clause-behind : goal.rewrite_packet-requires-clause-behind
rewrite_packet-requires-clause-behind c = transport_room c.args.bytes.now c.args.change.now.packet c.requires
