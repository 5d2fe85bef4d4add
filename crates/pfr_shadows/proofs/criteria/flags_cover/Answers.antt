use Rattle.pfr_shadows.proofs.CoverLemmas.{any_flags}
use Rattle.pfr_shadows.proofs.criteria.flags_cover.Goals as goal

pub returns-in-Any : goal.returns-in-Any
returns-in-Any c = λ _. any_flags c.args.wide c.args.narrow c.in-Any.is
