use Rattle.pfr_rules.proofs.TranslationLemmas.{moved, one_moved}
use Rattle.pfr_rules.proofs.laws.moved_ports_keep_their_distance.Goals as goal

pub returns-clause-range : goal.returns-clause-range
returns-clause-range c = moved

pub returns-clause-one : goal.returns-clause-one
returns-clause-one c = one_moved
