use Rattle.std.proofs.Common.{◌≡◌, drop}
use Rattle.pfr_net.specs.Notation as spec
use Rattle.pfr_net.proofs.notation.are_digits.Given as goal

abbrev pub invariant-loop-byte : goal.invariant-loop-byte
invariant-loop-byte l = spec.are_digits (drop l.byte-index l.text) ≡ spec.are_digits l.text
