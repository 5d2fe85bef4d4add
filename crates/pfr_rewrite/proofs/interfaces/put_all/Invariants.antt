use Rattle.std.proofs.Common.{◌≡◌, ◌++◌, drop}
use Rattle.pfr_rewrite.specs.Interfaces as spec
use Rattle.pfr_rewrite.proofs.interfaces.put_all.Given as goal

abbrev pub invariant-loop-mark : goal.invariant-loop-mark
invariant-loop-mark l = l.names ++ spec.names_of_words l.given (drop l.mark-index l.words) ≡ l.fn.names ++ spec.names_of_words l.given l.words
