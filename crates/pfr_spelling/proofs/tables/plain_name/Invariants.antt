use Rattle.std.proofs.Common.{◌≡◌, ◌++◌, drop, map, take}
use Rattle.pfr_spelling.specs.Tables as spec
use Rattle.pfr_spelling.proofs.tables.plain_name.Given as goal

abbrev pub invariant-loop-byte : goal.invariant-loop-byte
invariant-loop-byte l = l.made ++ map spec.name_byte (drop l.byte-index (take 31 l.name)) ≡ map spec.name_byte (take 31 l.name)
