use Rattle.std.proofs.Common.{◌≡◌, drop}
use Rattle.pfr_phrases.specs.Options as spec
use Rattle.pfr_phrases.proofs.options.are_all_left_out.Given as goal

abbrev pub invariant-loop-at : goal.invariant-loop-at
invariant-loop-at l = spec.all_left_out l.group l.passed (drop l.at l.marks) ≡ spec.all_left_out l.group 0 l.marks
