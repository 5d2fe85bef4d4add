use Rattle.std.proofs.Common.{◌≡◌, drop}
use Rattle.pfr_spelling.specs.Replacing as spec
use Rattle.pfr_spelling.proofs.replacing.colon_in.Given as goal

abbrev pub invariant-loop-before : goal.invariant-loop-before
invariant-loop-before l = spec.colon_from l.before (drop l.before l.word) ≡ spec.colon_from 0 l.word
