use Rattle.std.proofs.Common.{◌≡◌, ◌≤◌, ◌+◌, drop}
use Rattle.pfr_words.specs.Words as spec
use Rattle.pfr_words.proofs.spelling.newlines.Given as goal

abbrev pub invariant-loop-byte : goal.invariant-loop-byte
invariant-loop-byte l = (l.count + spec.newlines (drop l.byte-index l.text) ≡ spec.newlines l.text) × (l.count ≤ l.byte-index)
