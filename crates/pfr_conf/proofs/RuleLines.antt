-- The readers of options and filter rules have their faults on lines of the text.
use Rattle.std.proofs.Common.{ℕ, Bool, List, Option, Some, None, Err}
use Rattle.pfr_net.specs.declared.policy.BlockPolicy.{BlockPolicy}
use Rattle.pfr_net.specs.declared.policy.StatePolicy.{StatePolicy}
use Rattle.pfr_terms.specs.declared.error.ConfError.{ConfError}
use Rattle.pfr_terms.specs.declared.name.Name.{Name}
use Rattle.pfr_terms.specs.declared.name.MacroUse.{MacroUse}
use Rattle.pfr_terms.specs.Input.{Input, Parser, plain_ahead, quoted_ahead, macro_ahead}
use Rattle.pfr_terms.proofs.Lines.{IsLine, Within, Keeps, either, refusal_is, fault_is, left_out_is, keeps_then, keeps_pure, keeps_if, keeps_test, keeps_by, keeps_loop, keeps_eat_word, keeps_number_in, reading}
use Rattle.pfr_terms.proofs.TermLines.{keeps_written, keeps_list, keeps_interface_name, keeps_icmp_match, keeps_flags_match, keeps_criteria}
use Rattle.pfr_conf.specs.declared.settings.TimeoutName.{TimeoutName}
use Rattle.pfr_conf.specs.declared.settings.Limit.{Limit}
use Rattle.pfr_conf.specs.declared.options.OptionWord.{OptionWord}
use Rattle.pfr_conf.specs.declared.options.OptionWord.TheVariants as word
use Rattle.pfr_conf.specs.declared.rule_options.StateOptions.{StateOptions}
use Rattle.pfr_conf.specs.declared.rule_options.StateKeeping.{StateKeeping}
use Rattle.pfr_conf.specs.declared.rule_options.RuleOptions as R
use Rattle.pfr_conf.specs.declared.filter.Action as A
use Rattle.pfr_conf.specs.Names as names
use Rattle.pfr_conf.specs.Policies as policies
use Rattle.pfr_conf.specs.Settings as settings
use Rattle.pfr_conf.specs.Options as options
use Rattle.pfr_conf.specs.RuleOptions as rule_options
use Rattle.pfr_conf.specs.Filters as filters

-- ---- names and single words

name_by_keeps : {n : ℕ} (quoted plain : Option (List ℕ)) → Keeps n (names.name_by quoted plain)
name_by_keeps (Some text) plain = search reading
name_by_keeps None (Some word) = search reading
name_by_keeps None None = search reading

pub keeps_name_ahead : {n : ℕ} → Keeps n names.name_ahead
unfolding names.name_ahead
keeps_name_ahead = keeps_by quoted_ahead (λ quoted i. names.name_by quoted (plain_ahead i) i) (λ quoted. keeps_by plain_ahead (names.name_by quoted) (name_by_keeps quoted))

name_or_refuse_keeps : {n : ℕ} (found : Option Name) → Keeps n (names.name_or_refuse found)
name_or_refuse_keeps (Some name) = search reading
name_or_refuse_keeps None = search reading

pub keeps_some_name : {n : ℕ} → Keeps n names.some_name
unfolding names.some_name
keeps_some_name = search (reading, keeps_name_ahead, name_or_refuse_keeps)

pub keeps_direction : {n : ℕ} → Keeps n policies.direction
unfolding policies.direction
keeps_direction = search reading

block_policy_keeps : {n : ℕ} → Keeps n policies.block_policy
unfolding policies.block_policy
block_policy_keeps = search reading

state_policy_keeps : {n : ℕ} → Keeps n policies.state_policy
unfolding policies.state_policy
state_policy_keeps = search reading

pub keeps_end_of_line : {n : ℕ} → Keeps n policies.end_of_line
unfolding policies.end_of_line
keeps_end_of_line = search (reading, keeps_test)

-- ---- timeouts and limits

adaptive_refusal_is : (n : ℕ) (i : Input) → Within n i → IsLine n (settings.adaptive_refusal i).line
unfolding settings.adaptive_refusal
adaptive_refusal_is n i within = either (λ (e : ConfError). IsLine n e.line) _ _ _ (left_out_is n _ i within) (refusal_is n i within)

timeout_refusal_by_is : (n : ℕ) (found : Option TimeoutName) (i : Input) → Within n i → IsLine n (settings.timeout_refusal_by found i).line
timeout_refusal_by_is n (Some timeout) i within = left_out_is n _ i within
timeout_refusal_by_is n None i within = adaptive_refusal_is n i within

timeout_refusal_keeps : {A : Type 0} {n : ℕ} → Keeps {A = A} n (λ i. Err (settings.timeout_refusal i))
unfolding settings.timeout_refusal
timeout_refusal_keeps {n = n} = record { from = λ i within. timeout_refusal_by_is n _ i within }

timeout_by_keeps : {n : ℕ} (found : Option TimeoutName) → Keeps n (settings.timeout_by found)
timeout_by_keeps {n = n} None = record { from = adaptive_refusal_is n }
timeout_by_keeps (Some timeout) = search (reading, keeps_number_in)

timeout_setting_keeps : {n : ℕ} → Keeps n settings.timeout_setting
unfolding settings.timeout_setting
timeout_setting_keeps = keeps_by (λ i. settings.timeout_in (plain_ahead i)) settings.timeout_by timeout_by_keeps

limit_by_keeps : {n : ℕ} (found : Option Limit) → Keeps n (settings.limit_by found)
limit_by_keeps None = search reading
limit_by_keeps (Some limit) = search (reading, keeps_number_in)

limit_setting_keeps : {n : ℕ} → Keeps n settings.limit_setting
unfolding settings.limit_setting
limit_setting_keeps = keeps_by (λ i. settings.limit_in (plain_ahead i)) settings.limit_by limit_by_keeps

-- ---- options

set_left_out_keeps : {A : Type 0} {n : ℕ} (text : List ℕ) → Keeps {A = A} n (λ i. Err (options.set_left_out text i))
unfolding options.set_left_out
set_left_out_keeps {n = n} text = record { from = fault_is n _ }

skip_keeps : {n : ℕ} → Keeps n options.skip
unfolding options.skip
skip_keeps = search (reading, keeps_list, keeps_written, keeps_interface_name)

block_policy_by_keeps : {n : ℕ} (found : Option BlockPolicy) → Keeps n (options.block_policy_by found)
block_policy_by_keeps (Some found) = search reading
block_policy_by_keeps None = search reading

block_policy_option_keeps : {n : ℕ} → Keeps n options.block_policy_option
unfolding options.block_policy_option
block_policy_option_keeps = search (reading, block_policy_keeps, block_policy_by_keeps)

state_policy_by_keeps : {n : ℕ} (found : Option StatePolicy) → Keeps n (options.state_policy_by found)
state_policy_by_keeps (Some found) = search reading
state_policy_by_keeps None = search reading

state_policy_option_keeps : {n : ℕ} → Keeps n options.state_policy_option
unfolding options.state_policy_option
state_policy_option_keeps = search (reading, state_policy_keeps, state_policy_by_keeps)

host_id_by_keeps : {n : ℕ} (found : Option ℕ) → Keeps n (options.host_id_by found)
host_id_by_keeps None = search reading
host_id_by_keeps (Some number) = search reading

host_id_keeps : {n : ℕ} → Keeps n options.host_id
unfolding options.host_id
host_id_keeps = keeps_by (λ i. options.host_id_ahead (plain_ahead i)) options.host_id_by host_id_by_keeps

optimization_by_keeps : {n : ℕ} (found : Option (List ℕ)) → Keeps n (options.optimization_by found)
optimization_by_keeps (Some other) = set_left_out_keeps _
optimization_by_keeps None = search reading

optimization_keeps : {n : ℕ} → Keeps n options.optimization
unfolding options.optimization
optimization_keeps = keeps_then (keeps_eat_word _) (λ is_normal. keeps_if is_normal (keeps_pure _) (keeps_by plain_ahead options.optimization_by optimization_by_keeps))

any_word_by_keeps : {n : ℕ} (found : Option MacroUse) (quoted plain : Option (List ℕ)) → Keeps n (options.any_word_by found quoted plain)
any_word_by_keeps (Some found) quoted plain = search reading
any_word_by_keeps None (Some text) plain = search reading
any_word_by_keeps None None (Some text) = search reading
any_word_by_keeps None None None = search reading

any_word_keeps : {n : ℕ} → Keeps n options.any_word
unfolding options.any_word
any_word_keeps =
    keeps_by macro_ahead (λ found i. options.any_word_by found (quoted_ahead i) (plain_ahead i) i) (λ found.
    keeps_by quoted_ahead (λ quoted i. options.any_word_by found quoted (plain_ahead i) i) (λ quoted.
    keeps_by plain_ahead (options.any_word_by found quoted) (any_word_by_keeps found quoted)))

option_by_keeps : {n : ℕ} (found : OptionWord) → Keeps n (options.option_by found)
unfolding options.option_by
option_by_keeps word.Skip = skip_keeps
option_by_keeps word.Timeout = search (reading, keeps_list, timeout_setting_keeps)
option_by_keeps word.Limit = search (reading, keeps_list, limit_setting_keeps)
option_by_keeps word.BlockPolicy = block_policy_option_keeps
option_by_keeps word.StatePolicy = state_policy_option_keeps
option_by_keeps word.HostId = host_id_keeps
option_by_keeps word.Optimization = optimization_keeps
option_by_keeps word.WithoutEffect = search (reading, any_word_keeps)

option_or_left_out_keeps : {n : ℕ} (text : List ℕ) (found : Option OptionWord) → Keeps n (options.option_or_left_out text found)
option_or_left_out_keeps text (Some found) = search (reading, option_by_keeps)
option_or_left_out_keeps text None = set_left_out_keeps text

option_in_keeps : {n : ℕ} (found : Option (List ℕ)) → Keeps n (options.option_in found)
option_in_keeps None = search reading
option_in_keeps (Some text) = option_or_left_out_keeps text _

pub keeps_set_option : {n : ℕ} → Keeps n options.set_option
unfolding options.set_option
keeps_set_option = keeps_by plain_ahead options.option_in option_in_keeps

-- ---- options of rules

eat_if_keeps : {n : ℕ} (may_come : Bool) (word : List ℕ) → Keeps n (rule_options.eat_if may_come word)
unfolding rule_options.eat_if
eat_if_keeps may_come word = search reading

with_policy_keeps : {n : ℕ} (found : StateOptions) (policy : Option StatePolicy) → Keeps n (rule_options.with_policy found policy)
with_policy_keeps found (Some policy) = search reading
with_policy_keeps found None = timeout_refusal_keeps

policy_option_keeps : {n : ℕ} (found : StateOptions) → Keeps n (rule_options.policy_option found)
unfolding rule_options.policy_option
policy_option_keeps found = search (reading, timeout_refusal_keeps, state_policy_keeps, with_policy_keeps)

most_option_keeps : {n : ℕ} (found : StateOptions) → Keeps n (rule_options.most_option found)
unfolding rule_options.most_option
most_option_keeps found = search (reading, eat_if_keeps, keeps_number_in, policy_option_keeps)

state_option_keeps : {n : ℕ} (found : StateOptions) → Keeps n (rule_options.state_option found)
unfolding rule_options.state_option
state_option_keeps found = search (reading, eat_if_keeps, most_option_keeps)

state_option_more_keeps : {n : ℕ} (more : StateOptions → Parser StateOptions) → ((found : StateOptions) → Keeps n (more found)) → (found : StateOptions) → Keeps n (rule_options.state_option_more more found)
state_option_more_keeps more rest found = search (reading, state_option_keeps, rest)

state_options_keeps : {n : ℕ} → Keeps n rule_options.state_options
state_options_keeps = keeps_loop rule_options.state_option_more _ state_option_more_keeps

keep_state_keeps : {n : ℕ} → Keeps n rule_options.keep_state
unfolding rule_options.keep_state
keep_state_keeps = search (reading, state_options_keeps)

state_keeping_keeps : {n : ℕ} → Keeps n rule_options.state_keeping
unfolding rule_options.state_keeping
state_keeping_keeps = search (reading, keep_state_keeps) depth 8

last_option_keeps : {n : ℕ} (found : R.RuleOptions) → Keeps n (rule_options.last_option found)
unfolding rule_options.last_option
last_option_keeps found = search (reading, eat_if_keeps, keeps_some_name) depth 8

with_keeping_keeps : {n : ℕ} (found : R.RuleOptions) (keeping : Option StateKeeping) → Keeps n (rule_options.with_keeping found keeping)
with_keeping_keeps found (Some keeping) = search reading
with_keeping_keeps found None = last_option_keeps found

later_option_keeps : {n : ℕ} (found : R.RuleOptions) → Keeps n (rule_options.later_option found)
unfolding rule_options.later_option
later_option_keeps found = search (reading, last_option_keeps, state_keeping_keeps, with_keeping_keeps)

rule_option_keeps : {n : ℕ} (found : R.RuleOptions) → Keeps n (rule_options.rule_option found)
unfolding rule_options.rule_option
rule_option_keeps found = search (reading, eat_if_keeps, keeps_flags_match, keeps_list, keeps_written, keeps_icmp_match, later_option_keeps) depth 8

rule_option_more_keeps : {n : ℕ} (more : R.RuleOptions → Parser R.RuleOptions) → ((found : R.RuleOptions) → Keeps n (more found)) → (found : R.RuleOptions) → Keeps n (rule_options.rule_option_more more found)
rule_option_more_keeps more rest found = search (reading, rule_option_keeps, rest)

rule_options_keeps : {n : ℕ} → Keeps n rule_options.rule_options
rule_options_keeps = keeps_loop rule_options.rule_option_more _ rule_option_more_keeps

-- ---- filter rules

pub keeps_action : {n : ℕ} → Keeps n filters.action
unfolding filters.action
keeps_action = search (reading, block_policy_keeps) depth 8

pub keeps_logged : {n : ℕ} → Keeps n filters.logged
unfolding filters.logged
keeps_logged = search (reading, keeps_test)

pub keeps_filter_rule : {n : ℕ} (line : ℕ) (action : A.Action) → Keeps n (filters.filter_rule line action)
unfolding filters.filter_rule
keeps_filter_rule line action = search (reading, keeps_direction, keeps_logged, keeps_criteria, rule_options_keeps) depth 8
