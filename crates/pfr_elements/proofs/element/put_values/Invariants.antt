use Rattle.std.proofs.Common.{◌≡◌, ◌++◌, map, take}
use Rattle.pfr_elements.specs.Elements as spec
use Rattle.pfr_elements.proofs.element.put_values.Given as goal

abbrev pub invariant-loop-flat : goal.invariant-loop-flat
invariant-loop-flat g l = (l.found.items ≡ l.fn.found.items ++ map (spec.turned_if l.is_negated g.T.Element.kind.turned) (take l.flat-index l.values)) × (l.found.fault ≡ l.fn.found.fault) × (l.found.count ≡ l.fn.found.count)
