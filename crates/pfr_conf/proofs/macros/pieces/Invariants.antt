use Rattle.std.proofs.Common.{◌≡◌, ◌-◌}
use Rattle.pfr_terms.specs.Input.{loop_from}
use Rattle.pfr_conf.specs.Macros as spec
use Rattle.pfr_conf.proofs.macros.pieces.Given as goal

abbrev pub invariant-loop-turn : goal.invariant-loop-turn
invariant-loop-turn l = spec.pieces l.fn.reader ≡ loop_from spec.piece_more (l._turn-end - l._turn) l.found l.reader
