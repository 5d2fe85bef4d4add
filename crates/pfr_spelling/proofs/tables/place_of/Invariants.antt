use Rattle.std.proofs.Common.{◌≡◌, drop}
use Rattle.pfr_spelling.specs.Tables as spec
use Rattle.pfr_spelling.proofs.tables.place_of.Given as goal

abbrev pub invariant-loop-before : goal.invariant-loop-before
invariant-loop-before l = spec.place_from l.before (drop l.before l.tables) l.name ≡ spec.place_from 0 l.tables l.name
