use Rattle.std.proofs.Common.{◌≡◌, ◌-◌}
use Rattle.pfr_terms.specs.Input as spec
use Rattle.pfr_terms.proofs.reader.Reader.expect_sign.Given as goal

abbrev pub invariant-loop-turn : goal.invariant-loop-turn
invariant-loop-turn l = spec.loop (spec.sign_or_more l.sign) tt l.fn.self ≡ spec.loop_from (spec.sign_or_more l.sign) (l._turn-end - l._turn) tt l.self
