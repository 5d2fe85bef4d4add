use Rattle.std.proofs.Common.{◌≡◌, ◌++◌}
use Rattle.pfr_rules.specs.Numbers.{numbers_from}
use Rattle.pfr_rules.proofs.visits.Run.put.Given as goal

abbrev pub invariant-loop-index : goal.invariant-loop-index
invariant-loop-index l = l.numbers ≡ l.fn.numbers ++ numbers_from l.self.first l.index
