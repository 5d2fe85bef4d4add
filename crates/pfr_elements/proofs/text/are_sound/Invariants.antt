use Rattle.std.proofs.Common.{◌≡◌, ◌≤◌, drop}
use Rattle.pfr_elements.specs.Values as spec
use Rattle.pfr_elements.proofs.text.are_sound.Given as goal

abbrev pub invariant-loop-word : goal.invariant-loop-word
invariant-loop-word l = (spec.are_sound l.depth (drop l.word-index l.words) ≡ spec.are_sound 0 l.words) × (l.depth ≤ l.word-index)
