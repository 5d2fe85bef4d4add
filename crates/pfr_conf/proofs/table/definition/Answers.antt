use Rattle.std.proofs.Common.{rules}
use Rattle.pfr_conf.specs.Tables.{table_definition}
use Rattle.pfr_conf.proofs.table.definition.Goals as goal

pub returns : goal.returns
unfolding table_definition
returns c = search rules
