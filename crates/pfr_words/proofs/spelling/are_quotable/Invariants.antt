use Rattle.std.proofs.Common.{◌≡◌, drop}
use Rattle.pfr_words.specs.Words as spec
use Rattle.pfr_words.proofs.spelling.are_quotable.Given as goal

abbrev pub invariant-loop-byte : goal.invariant-loop-byte
invariant-loop-byte l = spec.are_quotable (drop l.byte-index l.text) ≡ spec.are_quotable l.text
