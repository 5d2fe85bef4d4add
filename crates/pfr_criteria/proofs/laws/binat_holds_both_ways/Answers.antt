use Rattle.pfr_criteria.proofs.BinatLemmas.{both_ways}
use Rattle.pfr_criteria.proofs.laws.binat_holds_both_ways.Goals as goal

pub returns : goal.returns
returns c = both_ways
