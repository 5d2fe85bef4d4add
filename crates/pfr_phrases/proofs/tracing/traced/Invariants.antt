use Rattle.std.proofs.Common.{◌≡◌, ◌++◌, drop}
use Rattle.pfr_marks.specs.Marks.{beginning}
use Rattle.pfr_phrases.specs.Applying.{nothing, with_changes}
use Rattle.pfr_phrases.specs.Tracing.{pieces_from}
use Rattle.pfr_phrases.proofs.tracing.traced.Given as goal

abbrev pub invariant-loop-change : goal.invariant-loop-change
invariant-loop-change l =
    (with_changes l.text l.made l.place (drop l.change-index l.changes) ≡ with_changes l.text nothing beginning l.changes)
    × (l.pieces ++ pieces_from l.text l.made l.place (drop l.change-index l.changes) ≡ pieces_from l.text nothing beginning l.changes)
