-- Options, as pf.conf(5) has them. Of one that is set twice the last counts; interfaces that are skipped add up.
use Rattle.std.specs.Prelude.{ℕ, ◌+◌, ◌||◌, true, nat_lt, if◌then◌else◌, List, [], ◌∷◌, ◌++◌, length, fold, Option, Some, None, Result, Ok, Err}
use Rattle.pfr_net.specs.Timeouts.{with_timeout}
use Rattle.pfr_net.specs.declared.interface.IfName.{IfName}
use Rattle.pfr_ruleset.specs.declared.options.Options as O
use Rattle.pfr_terms.specs.declared.error.ConfError.{ConfError}
use Rattle.pfr_terms.specs.declared.interface.InterfaceName.{InterfaceName}
use Rattle.pfr_terms.specs.declared.name.Name.{Name}
use Rattle.pfr_terms.specs.declared.name.Written.{Written}
use Rattle.pfr_terms.specs.declared.name.Written.TheVariants as w
use Rattle.pfr_conf.specs.declared.settings.TimeoutName.{TimeoutName}
use Rattle.pfr_conf.specs.declared.settings.TimeoutName.TheVariants as timeout
use Rattle.pfr_conf.specs.declared.settings.TimeoutSetting.{TimeoutSetting}
use Rattle.pfr_conf.specs.declared.settings.Limit.{Limit}
use Rattle.pfr_conf.specs.declared.settings.Limit.TheVariants as limit
use Rattle.pfr_conf.specs.declared.settings.LimitSetting.{LimitSetting}
use Rattle.pfr_conf.specs.declared.options.SetOption.{SetOption}
use Rattle.pfr_conf.specs.declared.options.SetOption.TheVariants as o
use Rattle.pfr_elements.specs.declared.element.Elements as E
use Rattle.pfr_elements.specs.declared.scope.Scope.{Scope}
use Rattle.pfr_elements.specs.Elements.{elements_of, most_elements}
use Rattle.pfr_elements.specs.Terms.{skipped_kind}
use Rattle.pfr_elements.specs.Values.{plain_word_at}
use Rattle.pfr_flat.specs.Counts.{too_many}

-- only the timeouts of states have an effect
abbrev pub timeout_by : TimeoutName → ℕ → O.Options → O.Options
timeout_by (timeout.OfStates of_states) seconds options = record options { timeouts = with_timeout of_states seconds options.timeouts }
timeout_by other seconds options = options

abbrev pub timeout_set : O.Options → TimeoutSetting → O.Options
timeout_set options setting = timeout_by setting.timeout setting.seconds options

-- only the limit of states has an effect
abbrev pub limit_by : Limit → ℕ → O.Options → O.Options
limit_by limit.States number options = record options { state_limit = number }
limit_by other number options = options

abbrev pub limit_set : O.Options → LimitSetting → O.Options
limit_set options setting = limit_by setting.limit setting.number options

abbrev pub line_of : Written InterfaceName → ℕ
line_of (w.Item found) = found.name.line
line_of (w.Macro found) = found.line

abbrev pub first_line : List (Written InterfaceName) → ℕ
first_line [] = 0
first_line (x ∷ xs) = line_of x

abbrev pub skipped_by : O.Options → Option ConfError → List IfName → Result O.Options ConfError
skipped_by options (Some e) names = Err e
skipped_by options None names = Ok (record options { skipped = options.skipped ++ names })

-- there may be as many names as rules
abbrev pub with_skipped : ℕ → O.Options → E.Elements IfName → Result O.Options ConfError
with_skipped line options found =
    if nat_lt most_elements found.count || nat_lt 65536 (length options.skipped + found.count) then Err (too_many line)
    else skipped_by options found.fault found.items

abbrev pub checked : O.Options → Result (Unit {0}) ConfError → Result O.Options ConfError
checked options (Ok done) = Ok options
checked options (Err e) = Err e

abbrev pub without_effect : Scope → O.Options → Written Name → Result O.Options ConfError
without_effect scope options (w.Item name) = Ok options
without_effect scope options (w.Macro found) = checked options (plain_word_at scope.macros found)

abbrev pub with_skipped_on : Scope → List (Written InterfaceName) → O.Options → Result O.Options ConfError
with_skipped_on scope list options = with_skipped (first_line list) options (elements_of skipped_kind scope true list)

unfoldable pub with_option : Scope → SetOption → O.Options → Result O.Options ConfError
with_option scope (o.SkipOn list) options = with_skipped_on scope list options
with_option scope (o.Timeouts settings) options = Ok (fold timeout_set options settings)
with_option scope (o.Limits settings) options = Ok (fold limit_set options settings)
with_option scope (o.BlockPolicy policy) options = Ok (record options { block_policy = policy })
with_option scope (o.StatePolicy policy) options = Ok (record options { state_policy = policy })
with_option scope (o.HostId number) options = Ok (record options { host_id = number })
with_option scope o.NormalOptimization options = Ok options
with_option scope (o.WithoutEffect written) options = without_effect scope options written
