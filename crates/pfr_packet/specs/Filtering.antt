-- What the filter makes of a packet by itself (pf.conf(5), "Packet filtering").
use Rattle.std.specs.Prelude.{ℕ, Bool, false, List, [], Option, Some, None}
use Rattle.std.specs.List.{slice_get}
use Rattle.pfr_net.specs.declared.direction.Direction.{Direction}
use Rattle.pfr_net.specs.declared.interface.IfName.{IfName}
use Rattle.pfr_net.specs.declared.rule_number.RuleNumber.{RuleNumber}
use Rattle.pfr_ruleset.specs.declared.flat.FilterAction.{FilterAction}
use Rattle.pfr_ruleset.specs.declared.flat.FilterAction.TheVariants as action
use Rattle.pfr_ruleset.specs.declared.flat.FlatRule.{FlatRule}
use Rattle.pfr_ruleset.specs.declared.flat.StateRule.{StateRule}
use Rattle.pfr_ruleset.specs.declared.ruleset.Ruleset.{Ruleset}
use Rattle.pfr_headers.specs.declared.packet.Packet.{Packet}
use Rattle.pfr_rules.specs.declared.decision.Decision.{Decision}
use Rattle.pfr_states.specs.States.{StateTable}
use Rattle.pfr_packet.specs.declared.filtering.Conduct.{Conduct}
use Rattle.pfr_packet.specs.declared.outcome.Outcome.{Outcome}
use Rattle.pfr_packet.specs.declared.verdict.Reason.{Reason}
use Rattle.pfr_packet.specs.declared.verdict.Reason.TheVariants as reason
use Rattle.pfr_packet.specs.declared.verdict.Verdict.{Verdict}
use Rattle.pfr_packet.specs.declared.verdict.Verdict.TheVariants as verdict
use Rattle.pfr_packet.specs.Outcomes.{without_leave}
use Rattle.pfr_packet.specs.Plan.{FilterAnswer, filter_answer}

abbrev pub verdict_of : FilterAction → Verdict
verdict_of action.Pass = verdict.Pass
verdict_of action.Drop = verdict.Block
verdict_of action.Return = verdict.Return

abbrev pub reason_of : Option RuleNumber → Reason
reason_of (Some number) = reason.Rule
reason_of None = reason.Default

-- ---- what the deciding rule says beyond its verdict

abbrev pub silent : Conduct
silent = record { allows_options = false; state = None }

abbrev pub conduct_at : Option FlatRule → Conduct
conduct_at None = silent
conduct_at (Some rule) = record { allows_options = rule.allow_opts; state = rule.state }

-- without a deciding rule IP options aren't allowed, and no state is kept
abbrev pub conduct_of : List FlatRule → Option RuleNumber → Conduct
conduct_of rules None = silent
conduct_of rules (Some number) = conduct_at (slice_get rules number.0)

-- ---- a packet

abbrev pub decided : Direction → Decision → List ℕ → Outcome
decided direction decision visits = record {
  direction = Some direction;
  verdict = verdict_of decision.action;
  reason = reason_of decision.rule;
  rule = decision.rule;
  translation = None;
  state = None;
  visited = record { translation = []; filter = visits };
  bytes = None;
  change = None;
}

-- what a packet comes to by the filter's answer: a packet with IP options that the deciding rule doesn't allow doesn't
-- pass
unfoldable pub filtered : Ruleset → FilterAnswer → Packet → Direction → Outcome
filtered rules answer packet direction =
    without_leave packet (conduct_of rules.filter.rules answer.decision.rule).allows_options (decided direction answer.decision answer.visits)

-- the deciding rule allows IP options
unfoldable pub allows_options : Ruleset → FilterAnswer → Bool
allows_options rules answer = (conduct_of rules.filter.rules answer.decision.rule).allows_options

-- the state that the deciding rule keeps
unfoldable pub kept : Ruleset → FilterAnswer → Option StateRule
kept rules answer = (conduct_of rules.filter.rules answer.decision.rule).state

-- all three for a packet on the interface of a name, over a table that says which rules have room
abbrev pub filtered_over : Ruleset → IfName → StateTable → Packet → Direction → Outcome
filtered_over rules name table packet direction = filtered rules (filter_answer rules name table packet direction) packet direction

abbrev pub leave_over : Ruleset → IfName → StateTable → Packet → Direction → Bool
leave_over rules name table packet direction = allows_options rules (filter_answer rules name table packet direction)

abbrev pub kept_over : Ruleset → IfName → StateTable → Packet → Direction → Option StateRule
kept_over rules name table packet direction = kept rules (filter_answer rules name table packet direction)
