use Rattle.std.specs.List.{All}
use Rattle.pfr_shadows.specs.Shadows as spec
use Rattle.pfr_shadows.proofs.finding.shadows.Given as goal

abbrev pub invariant-loop-rule : goal.invariant-loop-rule
invariant-loop-rule l = All (λ shadow. spec.IsShadow l.ruleset shadow.rule shadow.by) l.found.items
