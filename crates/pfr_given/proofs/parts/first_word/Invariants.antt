use Rattle.std.proofs.Common.{◌≡◌, ◌≤◌, length}
use Rattle.pfr_given.specs.Texts as spec
use Rattle.pfr_given.proofs.parts.first_word.Given as goal

abbrev pub invariant-loop-rest : goal.invariant-loop-rest
invariant-loop-rest l = (spec.words l.rest ≡ spec.words l.text) × (length l.rest ≤ length l.text)

abbrev pub decreases-loop-rest : goal.decreases-loop-rest
decreases-loop-rest l = length l.rest
