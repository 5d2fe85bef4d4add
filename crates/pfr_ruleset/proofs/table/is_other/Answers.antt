use Rattle.std.proofs.Common.{rules}
use Rattle.pfr_ruleset.proofs.table.is_other.Goals as goal

pub returns-in-Some : goal.returns-in-Some
returns-in-Some c = search rules
