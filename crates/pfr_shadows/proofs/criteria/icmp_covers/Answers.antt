use Rattle.pfr_shadows.proofs.CoverLemmas.{any_icmp}
use Rattle.pfr_shadows.proofs.criteria.icmp_covers.Goals as goal

pub returns-in-None-default : goal.returns-in-None-default
returns-in-None-default c = λ _. any_icmp c.args.wide c.args.narrow c.in-None-default.is-0
