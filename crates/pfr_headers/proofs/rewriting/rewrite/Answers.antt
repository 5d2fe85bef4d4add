use Rattle.std.proofs.Common.{sym}
use Rattle.std.proofs.lemmas.List.{append-nil, take_rest}
use Rattle.pfr_headers.proofs.RewritingLemmas.{frame_written, nothing_behind, nowhere, packet_there}
use Rattle.pfr_headers.proofs.rewriting.rewrite.Goals as goal

pub rewrite_datagram-requires : goal.rewrite_datagram-requires
rewrite_datagram-requires c =
    rw (take_rest c.args.bytes.now c.in-Some.place) (packet_there c.args.link c.in-Some.place c.args.bytes.now c.args.change.now.packet (sym c.in-Some.ensures.place) c.requires)

pub returns-in-Some : goal.returns-in-Some
returns-in-Some c =
    let new = rw (take_rest c.args.bytes.now c.in-Some.place) at c.rewrite_datagram.ensures in
    rw (nothing_behind c.in-Some.place c.args.bytes.now, append-nil c.rewrite_datagram.new.bytes)
    (frame_written c.args.link c.in-Some.place c.args.bytes.now c.rewrite_datagram.new.bytes c.args.change.now (sym c.in-Some.ensures.place) new)

pub returns-in_default : goal.returns-in_default
returns-in_default c = nowhere c.args.link c.args.bytes.now c.args.change.now (sym c.in_default.ensures.place)
