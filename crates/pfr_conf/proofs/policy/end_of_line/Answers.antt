use Rattle.std.proofs.Common.{rules}
use Rattle.pfr_conf.specs.Policies.{end_of_line}
use Rattle.pfr_conf.proofs.policy.end_of_line.Goals as goal

pub returns-else-at_line_end : goal.returns-else-at_line_end
unfolding end_of_line
returns-else-at_line_end c = search rules
