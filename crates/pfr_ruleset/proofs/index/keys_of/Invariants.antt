use Rattle.std.proofs.Common.{◌≡◌, ◌<◌, All, map, take}
use Rattle.pfr_ruleset.specs.Shapes.{key_of_rule}
use Rattle.pfr_ruleset.proofs.index.keys_of.Given as goal

abbrev pub invariant-loop-asked : goal.invariant-loop-asked
invariant-loop-asked l = (l.keys.items ≡ map (key_of_rule l.shapes l.size) (take l.asked-index l.asked)) × All (λ key. key < l.size) l.keys.items
