use Rattle.std.proofs.Common.{◌≡◌, drop}
use Rattle.pfr_elements.specs.Elements as spec
use Rattle.pfr_elements.proofs.element.put_elements.Given as goal

abbrev pub invariant-loop-element : goal.invariant-loop-element
invariant-loop-element g l = spec.elements_from (spec.with_element g.T.Element.kind l.scope l.keeps) l.found (drop l.element-index l.list) ≡ spec.elements_from (spec.with_element g.T.Element.kind l.scope l.keeps) l.fn.found l.list
