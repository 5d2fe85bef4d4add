use Rattle.std.proofs.Common.{◌≡◌, fold, max, take}
use Rattle.pfr_elements.proofs.element.tables_of.Given as goal

abbrev pub invariant-loop-flat : goal.invariant-loop-flat
invariant-loop-flat g l = l.most ≡ fold (λ most x. max most (g.T.Element.kind.tables x)) 0 (take l.flat-index l.items)
