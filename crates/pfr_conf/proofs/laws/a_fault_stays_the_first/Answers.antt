use Rattle.pfr_conf.proofs.TextStays.{fault_stays}
use Rattle.pfr_conf.proofs.laws.a_fault_stays_the_first.Goals as goal

pub returns : goal.returns
returns c first second e whole = fault_stays first second e whole.0 whole.1
