use Rattle.pfr_conf.proofs.StatementLines.{fault_is_on_a_line}
use Rattle.pfr_conf.proofs.laws.fault_is_on_a_line.Goals as goal

pub returns : goal.returns
returns c text e is = let line = fault_is_on_a_line text e is in (line.some, line.within)
