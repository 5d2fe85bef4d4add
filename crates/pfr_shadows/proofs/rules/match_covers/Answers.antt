use Rattle.std.proofs.Common.{refl}
use Rattle.pfr_shadows.proofs.CoverLemmas.{match_parts}
use Rattle.pfr_shadows.proofs.rules.match_covers.Goals as goal

pub returns-then-destination : goal.returns-then-destination
returns-then-destination c = λ is.
    match_parts c.args.tables.now c.args.wide.now c.args.narrow.now (c.if-not-protocol.ensures refl) (c.if-not-interface.ensures refl) (c.if-not-destination_port.ensures refl)
    (c.if-not-source_port.ensures refl) (c.if-not-icmp.ensures refl) (c.if-destination.ensures refl) (c.host_covers-source.ensures is)
