use Rattle.std.proofs.Common.{◌≡◌, drop}
use Rattle.pfr_phrases.specs.Statements as spec
use Rattle.pfr_phrases.proofs.statements.criterion_in.Given as goal

abbrev pub invariant-loop-at : goal.invariant-loop-at
invariant-loop-at l = spec.criterion_in (drop l.at l.rule) ≡ spec.criterion_in l.rule
