use Rattle.std.proofs.Common.{◌≡◌, [], ◌∷◌, codes, fold, take}
use Rattle.pfr_expand.specs.Rulesets as spec
use Rattle.pfr_expand.proofs.expansion.table_names.Given as goal

abbrev pub invariant-loop-statement : goal.invariant-loop-statement
invariant-loop-statement l = l.names ≡ fold spec.with_table_name (codes "(self)" ∷ []) (take l.statement-index l.statements)
