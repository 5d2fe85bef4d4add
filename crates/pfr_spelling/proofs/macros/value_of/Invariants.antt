use Rattle.std.proofs.Common.{◌≡◌, None, drop}
use Rattle.pfr_spelling.specs.Macros as spec
use Rattle.pfr_spelling.proofs.macros.value_of.Given as goal

abbrev pub invariant-loop-found : goal.invariant-loop-found
invariant-loop-found l = spec.last_value l.value (drop l.found-index l.macros) l.name ≡ spec.last_value None l.macros l.name
