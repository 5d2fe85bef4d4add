use Rattle.std.proofs.Common.{◌≡◌, ◌-◌}
use Rattle.pfr_terms.specs.Input.{loop_from}
use Rattle.pfr_conf.specs.RuleOptions as spec
use Rattle.pfr_conf.proofs.rule_options.state_options.Given as goal

abbrev pub invariant-loop-turn : goal.invariant-loop-turn
invariant-loop-turn l = spec.state_options l.fn.reader ≡ loop_from spec.state_option_more (l._turn-end - l._turn) l.found l.reader
