use Rattle.pfr_asked.proofs.DeciderLemmas.{deciders}
use Rattle.pfr_asked.proofs.laws.deciders_are_asked.Goals as goal

pub returns : goal.returns
returns c = deciders
