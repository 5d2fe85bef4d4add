use Rattle.std.proofs.Common.{◌≡◌, ◌++◌, drop}
use Rattle.std.specs.List.{flat_map}
use Rattle.pfr_listing.specs.Json.{escaped}
use Rattle.pfr_listing.proofs.json.put_all_escaped.Given as goal

abbrev pub invariant-loop-byte : goal.invariant-loop-byte
invariant-loop-byte l = l.text.items ++ flat_map escaped (drop l.byte-index l.bytes) ≡ l.initial.text.items ++ flat_map escaped l.bytes
