use Rattle.std.proofs.Common.{rules}
use Rattle.pfr_terms.proofs.address.range_word.Goals as goal

pub returns-in-Address : goal.returns-in-Address
returns-in-Address c = search rules

pub returns-in-Address-2 : goal.returns-in-Address-2
returns-in-Address-2 c = search rules
