-- The readers of options and filter rules read the same if lines stand behind what they read.
use Rattle.std.proofs.Common.{ℕ, suc, Bool, true, false, if◌then◌else◌, not, List, Option, Some, None, Err, codes, refl}
use Rattle.pfr_net.specs.declared.direction.Direction.{Direction}
use Rattle.pfr_net.specs.declared.policy.BlockPolicy.{BlockPolicy}
use Rattle.pfr_net.specs.declared.policy.StatePolicy.{StatePolicy}
use Rattle.pfr_words.specs.declared.sign.Sign.TheVariants as s
use Rattle.pfr_terms.specs.declared.name.Name.{Name}
use Rattle.pfr_terms.specs.declared.name.Written.{Written}
use Rattle.pfr_terms.specs.declared.name.Written.TheVariants as w
use Rattle.pfr_terms.specs.declared.error.ConfErrorKind.TheVariants.{BadNumber}
use Rattle.pfr_terms.specs.Input.{Parser, ◌>>=◌, plain_ahead, quoted_ahead, macro_ahead}
use Rattle.pfr_terms.proofs.BraceStays.{stays_expect_word, stays_number_in}
use Rattle.pfr_terms.proofs.Closers.{Stays}
use Rattle.pfr_terms.proofs.Sights.{Sight, plain_sight, plain_shows, quoted_sight, quoted_shows, macro_sight, macro_shows, refusal_sight, left_out_sight, word_sight, sees_sight, named_sight, named_shows}
use Rattle.pfr_terms.proofs.Stays.{stays_pure, stays_pure_told, stays_then, stays_first, stays_turn, stays_by_test, stays_by_test_so, stays_found, stays_if, stays_any, stays_by, stays_at, stays_test, stays_fault, stays_loop, stays_eat_word, stays_eat_word_so, stays_eat_sign, stays_named, stays_taken, stays_refuse, stays_faulty, stays_leave_out}
use Rattle.pfr_terms.proofs.TermStays.{stays_written, stays_list, stays_interface_name, stays_icmp_match, stays_flags_match, stays_criteria}
use Rattle.pfr_conf.specs.declared.options.SetOption.TheVariants as o
use Rattle.pfr_conf.specs.declared.settings.TimeoutName.{TimeoutName}
use Rattle.pfr_conf.specs.declared.settings.TimeoutSetting.{TimeoutSetting}
use Rattle.pfr_conf.specs.declared.settings.Limit.{Limit}
use Rattle.pfr_conf.specs.declared.settings.LimitSetting.{LimitSetting}
use Rattle.pfr_conf.specs.declared.options.SetOption.{SetOption}
use Rattle.pfr_conf.specs.declared.options.OptionWord.{OptionWord}
use Rattle.pfr_conf.specs.declared.options.OptionWord.TheVariants as word
use Rattle.pfr_conf.specs.declared.rule_options.StateOptions.{StateOptions}
use Rattle.pfr_conf.specs.declared.rule_options.StateKeeping.{StateKeeping}
use Rattle.pfr_conf.specs.declared.rule_options.RuleOptions as R
use Rattle.pfr_conf.specs.declared.filter.Action as A
use Rattle.pfr_conf.specs.declared.filter.FilterRule.{FilterRule}
use Rattle.pfr_conf.specs.Names as names
use Rattle.pfr_conf.specs.Policies as policies
use Rattle.pfr_conf.specs.Settings as settings
use Rattle.pfr_conf.specs.Options as options
use Rattle.pfr_conf.specs.RuleOptions as rule_options
use Rattle.pfr_conf.specs.Filters as filters

-- ---- names and single words

abbrev pub is_there : {X : Type 0} → Option X → Bool
is_there None = false
is_there (Some x) = true

some_named_stays : {inside : Bool} {count : ℕ} {eaten : Option Name → Bool} (text : List ℕ) → Stays inside inside 0 true eaten count (names.some_named text) (names.some_named text)
some_named_stays text = stays_first (stays_named text) (λ name. stays_pure _)

name_by_stays : {inside : Bool} {count : ℕ} (word : List ℕ) → Stays inside inside 0 true is_there count (names.name_by None (Some word)) (names.name_by None (Some word))
name_by_stays word = stays_if _ (some_named_stays word) (stays_pure_told None refl)

pub stays_name_ahead : {inside sees : Bool} {count : ℕ} → Stays inside inside 0 sees is_there count names.name_ahead names.name_ahead
unfolding names.name_ahead
stays_name_ahead = stays_by quoted_ahead (λ quoted i. names.name_by quoted (plain_ahead i) i) quoted_sight quoted_shows
    (stays_by plain_ahead (names.name_by None) plain_sight plain_shows (stays_pure_told None refl) name_by_stays) (λ text. some_named_stays text)

name_or_refuse_stays : {inside : Bool} {count : ℕ} (found : Option Name) → Stays inside inside 0 false (λ (name : Name). false) count (names.name_or_refuse found) (names.name_or_refuse found)
name_or_refuse_stays (Some name) = stays_pure name
name_or_refuse_stays None = stays_refuse

pub stays_some_name : {inside sees : Bool} {count : ℕ} → Stays inside inside 0 sees (λ (name : Name). false) count names.some_name names.some_name
unfolding names.some_name
stays_some_name = stays_then (stays_any is_there stays_name_ahead) name_or_refuse_stays

pub stays_direction : {inside sees : Bool} {count : ℕ} → Stays inside inside 0 sees (λ (way : Option Direction). false) count policies.direction policies.direction
unfolding policies.direction
stays_direction = stays_found _ (stays_pure _) (stays_found _ (stays_pure _) (stays_pure _))

block_policy_stays : {inside sees : Bool} {count : ℕ} → Stays inside inside 0 sees (λ (policy : Option BlockPolicy). false) count policies.block_policy policies.block_policy
unfolding policies.block_policy
block_policy_stays = stays_found _ (stays_pure _) (stays_found _ (stays_pure _) (stays_pure _))

state_policy_stays : {inside sees : Bool} {count : ℕ} → Stays inside inside 0 sees is_there count policies.state_policy policies.state_policy
unfolding policies.state_policy
state_policy_stays = stays_found _ (stays_pure _) (stays_found _ (stays_pure _) (stays_pure_told None refl))

-- ---- timeouts and limits

adaptive_refusal_sight : Sight settings.adaptive_refusal
unfolding settings.adaptive_refusal
adaptive_refusal_sight = record { alike = λ line ys i. rw ((word_sight (codes "adaptive.start")).alike line ys i, (word_sight (codes "adaptive.end")).alike line ys i, (left_out_sight (codes "timeout")).alike line ys i, refusal_sight.alike line ys i) refl }

timeout_refusal_by_sight : (found : Option TimeoutName) → Sight (settings.timeout_refusal_by found)
timeout_refusal_by_sight (Some timeout) = left_out_sight _
timeout_refusal_by_sight None = adaptive_refusal_sight

timeout_refusal_stays : {A : Type 0} {before to sees : Bool} {closing count : ℕ} {eaten : A → Bool} → Stays {A = A} before to closing sees eaten count (λ i. Err (settings.timeout_refusal i)) (λ i. Err (settings.timeout_refusal i))
unfolding settings.timeout_refusal
timeout_refusal_stays = stays_at (λ i. settings.timeout_in (plain_ahead i)) (λ found i. Err (settings.timeout_refusal_by found i)) (named_sight settings.timeout_in) (λ found. stays_fault (settings.timeout_refusal_by found) (timeout_refusal_by_sight found))

timeout_by_stays : {inside : Bool} {count : ℕ} {eaten : TimeoutSetting → Bool} (timeout : TimeoutName) → Stays inside inside 0 true eaten count (settings.timeout_by (Some timeout)) (settings.timeout_by (Some timeout))
timeout_by_stays timeout = stays_first stays_taken (λ done. stays_then (stays_number_in 0 2147483647) (λ seconds. stays_pure (record { timeout = timeout; seconds = seconds })))

timeout_setting_stays : {inside sees : Bool} {count : ℕ} {eaten : TimeoutSetting → Bool} → Stays inside inside 0 sees eaten count settings.timeout_setting settings.timeout_setting
unfolding settings.timeout_setting
timeout_setting_stays = stays_by (λ i. settings.timeout_in (plain_ahead i)) settings.timeout_by (named_sight settings.timeout_in) (named_shows settings.timeout_in refl) (stays_fault settings.adaptive_refusal adaptive_refusal_sight) timeout_by_stays

limit_by_stays : {inside : Bool} {count : ℕ} {eaten : LimitSetting → Bool} (limit : Limit) → Stays inside inside 0 true eaten count (settings.limit_by (Some limit)) (settings.limit_by (Some limit))
limit_by_stays limit = stays_first stays_taken (λ done. stays_then (stays_number_in (settings.range_of limit).0 (settings.range_of limit).1) (λ number. stays_pure (record { limit = limit; number = number })))

limit_setting_stays : {inside sees : Bool} {count : ℕ} {eaten : LimitSetting → Bool} → Stays inside inside 0 sees eaten count settings.limit_setting settings.limit_setting
unfolding settings.limit_setting
limit_setting_stays = stays_by (λ i. settings.limit_in (plain_ahead i)) settings.limit_by (named_sight settings.limit_in) (named_shows settings.limit_in refl) stays_refuse limit_by_stays

-- ---- options

set_left_out_stays : {A : Type 0} {before to sees : Bool} {closing count : ℕ} {eaten : A → Bool} (text : List ℕ) → Stays {A = A} before to closing sees eaten count (λ i. Err (options.set_left_out text i)) (λ i. Err (options.set_left_out text i))
unfolding options.set_left_out
set_left_out_stays text = stays_faulty _

skip_stays : {sees : Bool} {count : ℕ} → Stays false false 0 sees (λ (option : SetOption). false) count options.skip options.skip
unfolding options.skip
skip_stays = stays_then (stays_expect_word _) (λ on. stays_then (stays_list (λ inside count. stays_written stays_interface_name)) (λ interfaces. stays_pure _))

block_policy_by_stays : {inside : Bool} {count : ℕ} (found : Option BlockPolicy) → Stays inside inside 0 false (λ (option : SetOption). false) count (options.block_policy_by found) (options.block_policy_by found)
block_policy_by_stays (Some found) = stays_pure _
block_policy_by_stays None = stays_refuse

block_policy_option_stays : {inside sees : Bool} {count : ℕ} → Stays inside inside 0 sees (λ (option : SetOption). false) count options.block_policy_option options.block_policy_option
unfolding options.block_policy_option
block_policy_option_stays = stays_then block_policy_stays block_policy_by_stays

state_policy_by_stays : {inside : Bool} {count : ℕ} (found : Option StatePolicy) → Stays inside inside 0 false (λ (option : SetOption). false) count (options.state_policy_by found) (options.state_policy_by found)
state_policy_by_stays (Some found) = stays_pure _
state_policy_by_stays None = stays_refuse

state_policy_option_stays : {inside sees : Bool} {count : ℕ} → Stays inside inside 0 sees (λ (option : SetOption). false) count options.state_policy_option options.state_policy_option
unfolding options.state_policy_option
state_policy_option_stays = stays_then (stays_any is_there state_policy_stays) state_policy_by_stays

host_id_by_stays : {inside : Bool} {count : ℕ} {eaten : SetOption → Bool} (number : ℕ) → Stays inside inside 0 true eaten count (options.host_id_by (Some number)) (options.host_id_by (Some number))
host_id_by_stays number = stays_if _ (stays_first stays_taken (λ done. stays_pure (o.HostId number))) (stays_faulty BadNumber)

host_id_stays : {inside sees : Bool} {count : ℕ} {eaten : SetOption → Bool} → Stays inside inside 0 sees eaten count options.host_id options.host_id
unfolding options.host_id
host_id_stays = stays_by (λ i. options.host_id_ahead (plain_ahead i)) options.host_id_by (named_sight options.host_id_ahead) (named_shows options.host_id_ahead refl) stays_refuse host_id_by_stays

optimization_by_stays : {inside sees : Bool} {count : ℕ} {eaten : SetOption → Bool} (found : Option (List ℕ)) → Stays inside inside 0 sees eaten count (options.optimization_by found) (options.optimization_by found)
optimization_by_stays (Some other) = set_left_out_stays _
optimization_by_stays None = stays_refuse

optimization_stays : {inside sees : Bool} {count : ℕ} {eaten : SetOption → Bool} → Stays inside inside 0 sees eaten count options.optimization options.optimization
unfolding options.optimization
optimization_stays = stays_found _ (stays_pure _) (stays_at plain_ahead options.optimization_by plain_sight optimization_by_stays)

any_word_stays : {inside sees : Bool} {count : ℕ} {eaten : Written Name → Bool} → Stays inside inside 0 sees eaten count options.any_word options.any_word
unfolding options.any_word
any_word_stays =
    stays_by macro_ahead (λ found i. options.any_word_by found (quoted_ahead i) (plain_ahead i) i) macro_sight macro_shows
    (stays_by quoted_ahead (λ quoted i. options.any_word_by None quoted (plain_ahead i) i) quoted_sight quoted_shows
    (stays_by plain_ahead (options.any_word_by None None) plain_sight plain_shows stays_refuse (λ text. stays_first (stays_named text) (λ name. stays_pure _)))
    (λ text. stays_first (stays_named text) (λ name. stays_pure _)))
    (λ found. stays_first stays_taken (λ done. stays_pure (w.Macro found)))

option_by_stays : {sees : Bool} {count : ℕ} (found : OptionWord) → Stays false false 0 sees (λ (option : SetOption). false) count (options.option_by found) (options.option_by found)
unfolding options.option_by
option_by_stays word.Skip = skip_stays
option_by_stays word.Timeout = stays_then (stays_list (λ inside count. timeout_setting_stays)) (λ found. stays_pure _)
option_by_stays word.Limit = stays_then (stays_list (λ inside count. limit_setting_stays)) (λ found. stays_pure _)
option_by_stays word.BlockPolicy = block_policy_option_stays
option_by_stays word.StatePolicy = state_policy_option_stays
option_by_stays word.HostId = host_id_stays
option_by_stays word.Optimization = optimization_stays
option_by_stays word.WithoutEffect = stays_then any_word_stays (λ found. stays_pure _)

option_or_left_out_stays : {count : ℕ} (text : List ℕ) (found : Option OptionWord) → Stays false false 0 true (λ (option : SetOption). false) count (options.option_or_left_out text found) (options.option_or_left_out text found)
option_or_left_out_stays text (Some found) = stays_then stays_taken (λ done. option_by_stays found)
option_or_left_out_stays text None = set_left_out_stays text

pub stays_set_option : {sees : Bool} {count : ℕ} → Stays false false 0 sees (λ (option : SetOption). false) count options.set_option options.set_option
unfolding options.set_option
stays_set_option = stays_by plain_ahead options.option_in plain_sight plain_shows stays_refuse (λ text. option_or_left_out_stays text _)

-- ---- options of rules

eat_if_stays : {inside sees : Bool} {count : ℕ} (may_come : Bool) (word : List ℕ) → Stays inside inside 0 sees (λ (found : Bool). found) count (rule_options.eat_if may_come word) (rule_options.eat_if may_come word)
unfolding rule_options.eat_if
eat_if_stays may_come word = stays_if may_come (stays_eat_word_so word) (stays_pure_told false refl)

either_found : {B : Type 0} {before to : Bool} {closing count : ℕ} {eaten : B → Bool} {p p' q q' : Parser B}
    → Stays before to closing false (λ b. false) count p p' → Stays before to closing false eaten count q q'
    → (found : Bool) → Stays before to closing false (λ b. if found then false else eaten b) count (if found then p else q) (if found then p' else q')
either_found one other true = one
either_found one other false = other

found_if : {B : Type 0} {before to sees : Bool} {closing count : ℕ} {eaten : B → Bool} {p p' q q' : Parser B} (may_come : Bool) (word : List ℕ)
    → Stays before to closing false (λ b. false) count p p' → Stays before to closing false eaten count q q'
    → Stays before to closing sees eaten count (rule_options.eat_if may_come word >>= (λ found. if found then p else q)) (rule_options.eat_if may_come word >>= (λ found. if found then p' else q'))
found_if may_come word one other = stays_by_test_so (λ found. found) (eat_if_stays may_come word) (either_found one other)

with_policy_stays : {inside : Bool} {count : ℕ} (eaten : StateOptions → Bool) (found : StateOptions) (policy : Option StatePolicy) → Stays inside inside 0 false (λ b. if is_there policy then false else eaten b) count (rule_options.with_policy found policy) (rule_options.with_policy found policy)
with_policy_stays eaten found (Some policy) = stays_pure _
with_policy_stays eaten found None = timeout_refusal_stays

policy_option_stays : {inside sees : Bool} {count : ℕ} {eaten : StateOptions → Bool} (found : StateOptions) → Stays inside inside 0 sees eaten count (rule_options.policy_option found) (rule_options.policy_option found)
unfolding rule_options.policy_option
policy_option_stays found = stays_if _ timeout_refusal_stays (stays_by_test_so is_there state_policy_stays (with_policy_stays _ found))

most_option_stays : {inside sees : Bool} {count : ℕ} {eaten : StateOptions → Bool} (found : StateOptions) → Stays inside inside 0 sees eaten count (rule_options.most_option found) (rule_options.most_option found)
unfolding rule_options.most_option
most_option_stays found = found_if _ _ (stays_then (stays_number_in 1 4294967295) (λ most. stays_pure _)) (policy_option_stays found)

state_option_stays : {inside sees : Bool} {count : ℕ} {eaten : StateOptions → Bool} (found : StateOptions) → Stays inside inside 0 sees eaten count (rule_options.state_option found) (rule_options.state_option found)
unfolding rule_options.state_option
state_option_stays found = found_if _ _ (stays_pure _) (most_option_stays found)

state_options_stays : {inside sees : Bool} {count : ℕ} → Stays inside inside 0 sees (λ (options : StateOptions). false) count rule_options.state_options rule_options.state_options
state_options_stays = stays_loop rule_options.state_option_more _ (λ count more other rest found.
    stays_turn (state_option_stays found) (λ found'. stays_then (stays_eat_sign s.CloseParenthesis tt) (λ is_end. stays_if is_end (stays_pure _) (stays_then (stays_eat_sign s.Comma tt) (λ comma. rest _)))))

keep_state_stays : {inside sees : Bool} {count : ℕ} → Stays inside inside 0 sees (λ (keeping : StateKeeping). false) count rule_options.keep_state rule_options.keep_state
unfolding rule_options.keep_state
keep_state_stays = stays_then (stays_expect_word _) (λ done. stays_then (stays_eat_sign s.OpenParenthesis tt) (λ has_options. stays_if has_options (stays_then state_options_stays (λ options. stays_pure _)) (stays_pure _)))

state_keeping_stays : {inside sees : Bool} {count : ℕ} → Stays inside inside 0 sees is_there count rule_options.state_keeping rule_options.state_keeping
unfolding rule_options.state_keeping
state_keeping_stays = stays_found _ (stays_then (stays_expect_word _) (λ done. stays_pure _)) (stays_found _ (stays_then keep_state_stays (λ keeping. stays_pure _)) (stays_pure_told None refl))

abbrev was_read : Bool × R.RuleOptions → Bool
was_read read = read.0

last_option_stays : {inside sees : Bool} {count : ℕ} (found : R.RuleOptions) → Stays inside inside 0 sees was_read count (rule_options.last_option found) (rule_options.last_option found)
unfolding rule_options.last_option
last_option_stays found = found_if _ _ (stays_pure _) (found_if _ _ (stays_then stays_some_name (λ label. stays_pure _)) (stays_pure_told _ refl))

with_keeping_stays : {inside : Bool} {count : ℕ} (found : R.RuleOptions) (keeping : Option StateKeeping) → Stays inside inside 0 false (λ b. if is_there keeping then false else was_read b) count (rule_options.with_keeping found keeping) (rule_options.with_keeping found keeping)
with_keeping_stays found (Some keeping) = stays_pure _
with_keeping_stays found None = last_option_stays found

later_option_stays : {inside sees : Bool} {count : ℕ} (found : R.RuleOptions) → Stays inside inside 0 sees was_read count (rule_options.later_option found) (rule_options.later_option found)
unfolding rule_options.later_option
later_option_stays found = stays_if _ (last_option_stays found) (stays_by_test_so is_there state_keeping_stays (with_keeping_stays found))

rule_option_stays : {sees : Bool} {count : ℕ} (found : R.RuleOptions) → Stays false false 0 sees was_read count (rule_options.rule_option found) (rule_options.rule_option found)
unfolding rule_options.rule_option
rule_option_stays found = found_if _ _ (stays_then stays_flags_match (λ flags. stays_pure _)) (found_if _ _ (stays_then (stays_list (λ inside count. stays_written stays_icmp_match)) (λ types. stays_pure _)) (later_option_stays found))

either_turn : {A : Type 0} {count : ℕ} {p p' q q' : Parser A} (read : Bool)
    → Stays false false 0 false (λ a. false) count p p' → Stays false false 0 false (λ a. false) (suc count) q q'
    → Stays false false 0 false (λ a. if read then false else false) (if read then count else suc count) (if read then p else q) (if read then p' else q')
either_turn true more done = more
either_turn false more done = done

rule_options_stays : {sees : Bool} {count : ℕ} → Stays false false 0 sees (λ (options : R.RuleOptions). false) count rule_options.rule_options rule_options.rule_options
rule_options_stays = stays_loop rule_options.rule_option_more _ (λ count more other rest found.
    stays_by_test was_read (rule_option_stays found) (λ read. either_turn read.0 (rest read.1) (stays_pure read.1)))

-- ---- filter rules

pub stays_action : {inside sees : Bool} {count : ℕ} → Stays inside inside 0 sees (λ (action : Option A.Action). false) count filters.action filters.action
unfolding filters.action
stays_action = stays_found _ (stays_pure _) (stays_found _ (stays_then block_policy_stays (λ policy. stays_pure _)) (stays_pure _))

pub stays_logged : {inside sees : Bool} {count : ℕ} → Stays inside inside 0 sees (λ (is_logged : Bool). false) count filters.logged filters.logged
unfolding filters.logged
stays_logged = stays_then (stays_eat_word _) (λ is_logged. stays_if (not is_logged) (stays_pure _) (stays_test _ (sees_sight s.OpenParenthesis) (stays_leave_out _) (stays_pure _)))

pub stays_filter_rule : {sees : Bool} {count : ℕ} (line : ℕ) (action : A.Action) → Stays false false 0 sees (λ (rule : FilterRule). false) count (filters.filter_rule line action) (filters.filter_rule line action)
unfolding filters.filter_rule
stays_filter_rule line action = stays_then stays_direction (λ way. stays_then stays_logged (λ is_logged. stays_then (stays_eat_word _) (λ is_quick. stays_then stays_criteria (λ asked. stays_then rule_options_stays (λ options. stays_pure _)))))
