-- How many states each filter rule made, by the rule's number.
use Rattle.std.specs.Prelude.{ℕ, ◌<◌, ◌&&◌, if◌then◌else◌, List, length, Option, IfSome}
use Rattle.pfr_net.specs.declared.rule_number.RuleNumber.{RuleNumber}
use Rattle.pfr_track.specs.declared.state.State.{State}
use Rattle.pfr_track.specs.declared.time.Clock.{Clock}
use Rattle.pfr_states.specs.States.{is_of_rule, lives, names_rule}

-- 1 if the named rule has this number, else 0
abbrev pub counts_for : ℕ → Option RuleNumber → ℕ
counts_for rule named = if names_rule rule named then 1 else 0

-- 1 for a state of the rule with this number whose deadline hasn't come, else 0
abbrev pub left_of_rule : ℕ → Clock → State → ℕ
left_of_rule rule clock state = if lives clock state && is_of_rule rule state then 1 else 0

-- the rule, if there is one, has a count
abbrev pub HasCount : Option RuleNumber → List ℕ → Type 0
HasCount named counts = IfSome named (λ rule. rule.0 < length counts)
