use Rattle.std.proofs.Common.{sym, ◌∙◌}
use Rattle.pfr_shadows.proofs.CoverLemmas.{one_port}
use Rattle.pfr_shadows.proofs.criteria.ports_cover.Goals as goal

pub returns-in-Some : goal.returns-in-Some
returns-in-Some c = λ is. one_port c.args.wide c.args.narrow c.in-Some.port c.in-Some.ensures (sym c.port_holds.ensures ∙ is)
