use Rattle.std.proofs.Common.{◌≡◌, ◌++◌, drop}
use Rattle.pfr_rewrite.specs.Interfaces as spec
use Rattle.pfr_rewrite.proofs.interfaces.put_words.Given as goal

abbrev pub invariant-loop-mark : goal.invariant-loop-mark
invariant-loop-mark l = l.names ++ spec.plain_words (drop l.mark-index l.words) ≡ l.fn.names ++ spec.plain_words l.words
