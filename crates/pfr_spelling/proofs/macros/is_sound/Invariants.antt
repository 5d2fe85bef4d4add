use Rattle.std.proofs.Common.{◌≡◌, drop}
use Rattle.pfr_spelling.specs.Macros as spec
use Rattle.pfr_spelling.proofs.macros.is_sound.Given as goal

abbrev pub invariant-loop-at : goal.invariant-loop-at
invariant-loop-at l = spec.is_sound (drop l.at l.text) ≡ spec.is_sound l.text
