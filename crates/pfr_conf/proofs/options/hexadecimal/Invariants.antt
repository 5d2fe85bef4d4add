use Rattle.std.proofs.Common.{◌≡◌, ◌≤◌, drop}
use Rattle.pfr_conf.specs.Options as spec
use Rattle.pfr_conf.proofs.options.hexadecimal.Given as goal

abbrev pub invariant-loop-byte : goal.invariant-loop-byte
invariant-loop-byte l = (spec.hexadecimal l.value (drop l.byte-index l.digits) ≡ spec.hexadecimal 0 l.digits) × (l.value ≤ 4294967296)
