use Rattle.std.proofs.Common.{◌≡◌, drop}
use Rattle.pfr_terms.specs.Addresses as spec
use Rattle.pfr_terms.proofs.address.is_numeric.Given as goal

abbrev pub invariant-loop-byte : goal.invariant-loop-byte
invariant-loop-byte l = spec.is_numeric (drop l.byte-index l.word) ≡ spec.is_numeric l.word
