use Rattle.std.proofs.Common.{◌≡◌, drop}
use Rattle.pfr_elements.specs.Values.{begun}
use Rattle.pfr_expand.specs.Rulesets as spec
use Rattle.pfr_expand.proofs.expansion.draft_of.Given as goal

abbrev pub invariant-loop-piece : goal.invariant-loop-piece
invariant-loop-piece l = spec.pieces_from l.macros l.draft (drop l.piece-index l.pieces) ≡ spec.pieces_from l.macros (begun l.macros) l.pieces
