use Rattle.pfr_states.proofs.LawLemmas.{purged_twice}
use Rattle.pfr_states.proofs.laws.purge_twice_is_purge_at_the_later.Goals as goal

pub returns : goal.returns
returns c = purged_twice
