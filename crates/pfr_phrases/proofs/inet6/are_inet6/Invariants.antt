use Rattle.std.proofs.Common.{◌≡◌, drop}
use Rattle.pfr_phrases.specs.Inet6 as spec
use Rattle.pfr_phrases.proofs.inet6.are_inet6.Given as goal

abbrev pub invariant-loop-byte : goal.invariant-loop-byte
invariant-loop-byte l = spec.are_inet6 (drop l.byte-index l.text) ≡ spec.are_inet6 l.text
