use Rattle.std.proofs.Common.{refl}
use Rattle.pfr_shadows.proofs.CoverLemmas.{rule_parts}
use Rattle.pfr_shadows.proofs.rules.covers.Goals as goal

pub returns : goal.returns
returns c = λ is.
    rule_parts c.args.tables.now c.args.wide.now c.args.narrow.now (c.if-not-direction.ensures refl) (c.if-not-flags.ensures refl) (c.match_covers.ensures is)
