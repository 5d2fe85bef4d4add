use Rattle.std.proofs.Common.{rules}
use Rattle.pfr_flat.proofs.counts.exceeds.Goals as goal

pub returns-else-used-gt-MOST_RULES : goal.returns-else-used-gt-MOST_RULES
returns-else-used-gt-MOST_RULES c = search rules
