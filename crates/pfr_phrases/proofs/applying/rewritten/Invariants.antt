use Rattle.std.proofs.Common.{◌≡◌, drop}
use Rattle.pfr_phrases.specs.Applying as spec
use Rattle.pfr_phrases.proofs.applying.rewritten.Given as goal

abbrev pub invariant-loop-change : goal.invariant-loop-change
invariant-loop-change l = spec.with_changes l.text l.made l.place (drop l.change-index l.changes) ≡ spec.with_changes l.text spec.nothing Rattle.pfr_marks.specs.Marks.beginning l.changes
