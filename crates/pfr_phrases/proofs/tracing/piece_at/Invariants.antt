use Rattle.std.proofs.Common.{◌≡◌, None, drop}
use Rattle.pfr_phrases.specs.Tracing.{piece_from}
use Rattle.pfr_phrases.proofs.tracing.piece_at.Given as goal

abbrev pub invariant-loop-piece : goal.invariant-loop-piece
invariant-loop-piece l = piece_from l.found l.offset (drop l.piece-index l.pieces) ≡ piece_from None l.offset l.pieces
