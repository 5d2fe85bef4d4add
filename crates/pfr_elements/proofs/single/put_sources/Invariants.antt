use Rattle.std.proofs.Common.{◌≡◌, drop}
use Rattle.pfr_elements.specs.Elements as elements
use Rattle.pfr_elements.specs.Single as spec
use Rattle.pfr_elements.proofs.single.put_sources.Given as goal

abbrev pub invariant-loop-source : goal.invariant-loop-source
invariant-loop-source l = elements.elements_from (spec.with_source l.scope l.line) l.found (drop l.source-index l.list) ≡ elements.elements_from (spec.with_source l.scope l.line) l.fn.found l.list
