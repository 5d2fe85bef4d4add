use Rattle.std.proofs.Common.{◌≡◌, ◌-◌}
use Rattle.pfr_terms.specs.Input.{loop_from}
use Rattle.pfr_conf.specs.Tables as spec
use Rattle.pfr_conf.proofs.table.flags.Given as goal

abbrev pub invariant-loop-turn : goal.invariant-loop-turn
invariant-loop-turn l = spec.flags l.fn.reader ≡ loop_from spec.flag_more (l._turn-end - l._turn) tt l.reader
