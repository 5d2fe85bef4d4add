use Rattle.std.proofs.Common.{◌≡◌, drop, false}
use Rattle.pfr_phrases.specs.Statements as spec
use Rattle.pfr_phrases.proofs.statements.statement_len.Given as goal

abbrev pub invariant-loop-before : goal.invariant-loop-before
invariant-loop-before l = spec.statement_from l.before l.in_braces (drop l.before l.marks) ≡ spec.statement_from 0 false l.marks
