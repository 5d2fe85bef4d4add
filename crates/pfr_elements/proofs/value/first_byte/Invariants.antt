use Rattle.std.proofs.Common.{◌≡◌, drop}
use Rattle.pfr_elements.specs.Values as spec
use Rattle.pfr_elements.proofs.value.first_byte.Given as goal

abbrev pub invariant-loop-byte : goal.invariant-loop-byte
invariant-loop-byte l = spec.first_byte (drop l.byte-index l.text) ≡ spec.first_byte l.text
