-- What may stand behind the hosts of a filter rule.
use Rattle.std.specs.Prelude.{ℕ, Bool, true, false, not, if◌then◌else◌, List, Option, Some, None, Err, codes}
use Rattle.std.specs.Option.{is_none, is_some}
use Rattle.pfr_net.specs.declared.policy.StatePolicy.{StatePolicy}
use Rattle.pfr_words.specs.declared.sign.Sign.TheVariants as s
use Rattle.pfr_terms.specs.Input.{Parser, ◌>>=◌, pure, loop, number_in, eat_word, eat_sign, expect_word}
use Rattle.pfr_terms.specs.Lists.{written, list}
use Rattle.pfr_terms.specs.Terms.{flags_match, icmp_match}
use Rattle.pfr_conf.specs.declared.rule_options.StateOptions.{StateOptions}
use Rattle.pfr_conf.specs.declared.rule_options.StateKeeping.{StateKeeping}
use Rattle.pfr_conf.specs.declared.rule_options.StateKeeping.TheVariants.{No, Keep}
use Rattle.pfr_conf.specs.declared.rule_options.RuleOptions as R
use Rattle.pfr_conf.specs.Names.{some_name}
use Rattle.pfr_conf.specs.Policies.{state_policy}
use Rattle.pfr_conf.specs.Settings.{timeout_refusal}

-- past the word, if it comes next and may still come
unfoldable pub eat_if : Bool → List ℕ → Parser Bool
eat_if may_come word = if may_come then eat_word word else pure false

-- ---- states

abbrev pub with_policy : StateOptions → Option StatePolicy → Parser StateOptions
with_policy found (Some policy) = pure (record found { policy = Some policy })
with_policy found None = λ i. Err (timeout_refusal i)

-- no option of a state comes twice, and `if-bound` and `floating` don't come both
unfoldable pub policy_option : StateOptions → Parser StateOptions
policy_option found = if is_some found.policy then (λ i. Err (timeout_refusal i)) else (state_policy >>= with_policy found)

-- `max` says how many states of the rule there may be
unfoldable pub most_option : StateOptions → Parser StateOptions
most_option found = do
  is_most ← eat_if (is_none found.most) (codes "max")
  if is_most then (do most ← number_in 1 4294967295; pure (record found { most = Some most })) else policy_option found

unfoldable pub state_option : StateOptions → Parser StateOptions
state_option found = do
  is_no_sync ← eat_if (not found.no_sync) (codes "no-sync")
  if is_no_sync then pure (record found { no_sync = true }) else most_option found

abbrev pub state_option_more : (StateOptions → Parser StateOptions) → StateOptions → Parser StateOptions
state_option_more more found = do
  found' ← state_option found
  is_end ← eat_sign s.CloseParenthesis
  if is_end then pure found' else (do
    _ ← eat_sign s.Comma
    more found')

abbrev pub no_state_options : StateOptions
no_state_options = record { no_sync = false; most = None; policy = None }

abbrev pub state_options : Parser StateOptions
state_options = loop state_option_more no_state_options

-- what comes behind `keep`
unfoldable pub keep_state : Parser StateKeeping
keep_state = do
  _ ← expect_word (codes "state")
  has_options ← eat_sign s.OpenParenthesis
  if has_options then (do options ← state_options; pure (Keep options)) else pure (Keep no_state_options)

unfoldable pub state_keeping : Parser (Option StateKeeping)
state_keeping = do
  is_no ← eat_word (codes "no")
  if is_no then (do _ ← expect_word (codes "state"); pure (Some No)) else (do
    is_keep ← eat_word (codes "keep")
    if is_keep then (do keeping ← keep_state; pure (Some keeping)) else pure None)

-- ---- options of rules, each at most once; answered is also whether one was read

unfoldable pub last_option : R.RuleOptions → Parser (Bool × R.RuleOptions)
last_option found = do
  is_allow ← eat_if (not found.allow_opts) (codes "allow-opts")
  if is_allow then pure (true, record found { allow_opts = true }) else (do
    is_label ← eat_if (is_none found.label) (codes "label")
    if is_label then (do label ← some_name; pure (true, record found { label = Some label })) else pure (false, found))

abbrev pub with_keeping : R.RuleOptions → Option StateKeeping → Parser (Bool × R.RuleOptions)
with_keeping found (Some keeping) = pure (true, record found { state = Some keeping })
with_keeping found None = last_option found

unfoldable pub later_option : R.RuleOptions → Parser (Bool × R.RuleOptions)
later_option found = if is_some found.state then last_option found else (state_keeping >>= with_keeping found)

unfoldable pub rule_option : R.RuleOptions → Parser (Bool × R.RuleOptions)
rule_option found = do
  is_flags ← eat_if (is_none found.flags) (codes "flags")
  if is_flags then (do flags ← flags_match; pure (true, record found { flags = Some flags })) else (do
    is_icmp ← eat_if (is_none found.icmp_types) (codes "icmp-type")
    if is_icmp then (do types ← list (written icmp_match); pure (true, record found { icmp_types = Some types })) else later_option found)

abbrev pub rule_option_more : (R.RuleOptions → Parser R.RuleOptions) → R.RuleOptions → Parser R.RuleOptions
rule_option_more more found = do
  read ← rule_option found
  if read.0 then more read.1 else pure read.1

abbrev pub no_rule_options : R.RuleOptions
no_rule_options = record { flags = None; icmp_types = None; state = None; allow_opts = false; label = None }

abbrev pub rule_options : Parser R.RuleOptions
rule_options = loop rule_option_more no_rule_options
