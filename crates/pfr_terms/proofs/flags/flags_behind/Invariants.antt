use Rattle.std.proofs.Common.{◌≡◌, drop}
use Rattle.pfr_terms.specs.Terms as spec
use Rattle.pfr_terms.proofs.flags.flags_behind.Given as goal

abbrev pub invariant-loop-letter : goal.invariant-loop-letter
invariant-loop-letter l = spec.flags_behind l.flags (drop l.letter-index l.letters) ≡ spec.flags_behind 0 l.letters
