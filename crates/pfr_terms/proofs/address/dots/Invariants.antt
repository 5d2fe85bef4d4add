use Rattle.std.proofs.Common.{◌≡◌, ◌≤◌, ◌+◌, drop}
use Rattle.pfr_terms.specs.Addresses as spec
use Rattle.pfr_terms.proofs.address.dots.Given as goal

abbrev pub invariant-loop-byte : goal.invariant-loop-byte
invariant-loop-byte l = (l.count + spec.dots (drop l.byte-index l.word) ≡ spec.dots l.word) × (l.count ≤ l.byte-index)
