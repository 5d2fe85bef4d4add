use Rattle.std.proofs.Common.{refl}
use Rattle.pfr_terms.specs.Faults.{lower}
use Rattle.pfr_terms.proofs.FaultLemmas.{reported}
use Rattle.pfr_terms.proofs.laws.the_lower_kind_is_reported.Goals as goal

pub returns-clause-alone : goal.returns-clause-alone
unfolding lower
returns-clause-alone c second = refl

pub returns-clause-one : goal.returns-clause-one
returns-clause-one c first second = (reported first second).one

pub returns-clause-kind : goal.returns-clause-kind
returns-clause-kind c first second = let is = reported first second in (is.of_first, is.of_second)

pub returns-clause-line : goal.returns-clause-line
returns-clause-line c first second = (reported first second).line
