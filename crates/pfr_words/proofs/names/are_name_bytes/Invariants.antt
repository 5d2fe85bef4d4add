use Rattle.std.proofs.Common.{◌≡◌, drop}
use Rattle.pfr_words.specs.Names as spec
use Rattle.pfr_words.proofs.names.are_name_bytes.Given as goal

abbrev pub invariant-loop-byte : goal.invariant-loop-byte
invariant-loop-byte l = spec.are_name_bytes (drop l.byte-index l.text) ≡ spec.are_name_bytes l.text
