use Rattle.pfr_commit.proofs.CountLemmas.{total_of_run, totals_together}
use Rattle.pfr_commit.proofs.laws.totals_are_the_count.Goals as goal

pub returns-clause-each : goal.returns-clause-each
returns-clause-each c = total_of_run

pub returns-clause-together : goal.returns-clause-together
returns-clause-together c = totals_together
