use Rattle.std.proofs.Common.{◌≡◌, drop}
use Rattle.pfr_phrases.specs.Values as spec
use Rattle.pfr_phrases.proofs.values.are_parts.Given as goal

abbrev pub invariant-loop-byte : goal.invariant-loop-byte
invariant-loop-byte l = spec.are_parts l.digit (drop l.byte-index l.text) ≡ spec.are_parts l.fn.behind_digit l.text
