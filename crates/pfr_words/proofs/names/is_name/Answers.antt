use Rattle.std.proofs.Common.{rules}
use Rattle.pfr_words.specs.Names.{is_name}
use Rattle.pfr_words.proofs.names.is_name.Goals as goal

pub returns-then-are_name_bytes : goal.returns-then-are_name_bytes
unfolding is_name
returns-then-are_name_bytes c = search rules
