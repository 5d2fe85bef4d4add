use Rattle.std.proofs.Common.{◌≡◌, ◌-◌}
use Rattle.pfr_terms.specs.Input as spec
use Rattle.pfr_terms.proofs.reader.Reader.finish.Given as goal

abbrev pub invariant-loop-turn : goal.invariant-loop-turn
invariant-loop-turn l = spec.loop spec.end_or_more tt l.fn.self ≡ spec.loop_from spec.end_or_more (l._turn-end - l._turn) tt l.self
