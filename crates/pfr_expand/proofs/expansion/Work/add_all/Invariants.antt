use Rattle.std.proofs.Common.{◌≡◌, ◌≤◌, drop}
use Rattle.pfr_expand.specs.Rulesets as spec
use Rattle.pfr_expand.proofs.expansion.Work.add_all.Given as goal

abbrev pub invariant-loop-statement : goal.invariant-loop-statement
invariant-loop-statement l =
    (spec.expanded_from l.self (drop l.statement-index l.statements) ≡ spec.expanded_from l.fn.self l.statements)
    × (l.self.translations ≤ 65536)
