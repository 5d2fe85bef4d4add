use Rattle.std.proofs.Common.{sym, ◌∙◌}
use Rattle.pfr_shadows.proofs.CoverLemmas.{wider}
use Rattle.pfr_shadows.proofs.hosts.net_covers.Goals as goal

pub returns-then-wide-narrow : goal.returns-then-wide-narrow
returns-then-wide-narrow c = λ is. wider c.args.wide c.args.narrow c.if-wide-narrow.true (sym c.holds.ensures ∙ is)
