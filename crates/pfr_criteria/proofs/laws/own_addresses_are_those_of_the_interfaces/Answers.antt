use Rattle.pfr_criteria.proofs.OwnLemmas.{own_is}
use Rattle.pfr_criteria.proofs.laws.own_addresses_are_those_of_the_interfaces.Goals as goal

pub returns : goal.returns
returns c = own_is
