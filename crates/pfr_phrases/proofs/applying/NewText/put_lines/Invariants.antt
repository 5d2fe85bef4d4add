use Rattle.std.proofs.Common.{◌≡◌}
use Rattle.pfr_phrases.specs.Applying as spec
use Rattle.pfr_phrases.proofs.applying.NewText.put_lines.Given as goal

abbrev pub invariant-loop-left : goal.invariant-loop-left
invariant-loop-left l = spec.with_lines l.self l.last l.left ≡ spec.with_lines l.fn.self l.fn.line l.count

abbrev pub decreases-loop-left : goal.decreases-loop-left
decreases-loop-left l = l.left
