use Rattle.pfr_asked.proofs.SeenLemmas.{seen_asked}
use Rattle.pfr_asked.proofs.laws.what_was_seen_was_asked.Goals as goal

pub returns : goal.returns
returns c = seen_asked
