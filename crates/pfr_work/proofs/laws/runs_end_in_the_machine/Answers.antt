use Rattle.pfr_work.proofs.TieLemmas.{refused_ends, well_ends}
use Rattle.pfr_work.proofs.laws.runs_end_in_the_machine.Goals as goal

pub returns : goal.returns
returns g c = record { well = well_ends g.F.Feed.transitions; refused = refused_ends g.F.Feed.transitions }
