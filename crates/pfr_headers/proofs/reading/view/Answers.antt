use Rattle.std.proofs.Common.{sym}
use Rattle.std.proofs.lemmas.List.{take_rest}
use Rattle.pfr_headers.proofs.ViewLemmas.{ipv4_at, short_at, skip_at}
use Rattle.pfr_headers.proofs.reading.view.Goals as goal

pub returns-in-None-clause-is_view : goal.returns-in-None-clause-is_view
returns-in-None-clause-is_view c = skip_at c.args.link c.args.bytes.now (sym c.in-None.ensures.place)

pub returns-in-None-packet-clause-is_view : goal.returns-in-None-packet-clause-is_view
returns-in-None-packet-clause-is_view c =
    short_at c.args.link c.args.bytes.now c.in-Some.place (sym c.in-Some.ensures.place) (sym (rw (take_rest c.args.bytes.now c.in-Some.place, c.sender.ensures) at c.in-None-packet.ensures))

pub returns-in-Some-packet-clause-is_view : goal.returns-in-Some-packet-clause-is_view
returns-in-Some-packet-clause-is_view c =
    ipv4_at c.args.link c.args.bytes.now c.in-Some.place c.in-Some-packet.packet (sym c.in-Some.ensures.place) (sym (rw (take_rest c.args.bytes.now c.in-Some.place, c.sender.ensures) at c.in-Some-packet.ensures))
