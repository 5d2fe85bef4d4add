use Rattle.pfr_criteria.proofs.Members.{has_same}
use Rattle.pfr_criteria.proofs.laws.tables_hold_by_their_entries.Goals as goal

pub returns : goal.returns
returns c = has_same
