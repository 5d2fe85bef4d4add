use Rattle.std.proofs.Common.{◌≡◌, ◌-◌}
use Rattle.pfr_terms.specs.Input.{loop_from}
use Rattle.pfr_conf.specs.Statements as spec
use Rattle.pfr_conf.proofs.reading.lines.Given as goal

abbrev pub invariant-loop-turn : goal.invariant-loop-turn
invariant-loop-turn l = spec.lines l.fn.reader ≡ loop_from spec.text_line (l._turn-end - l._turn) (l.reached, l.found) l.reader
