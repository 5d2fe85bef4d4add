-- Options, as pf.conf(5) has them.
use Rattle.std.specs.Prelude.{[]}
use Rattle.pfr_net.specs.Timeouts.{default_timeouts}
use Rattle.pfr_ruleset.specs.declared.options.Options as O
use Rattle.pfr_net.specs.declared.policy.BlockPolicy.TheVariants as b
use Rattle.pfr_net.specs.declared.policy.StatePolicy.TheVariants as policy

-- what holds if nothing is set
abbrev pub default_options : O.Options
default_options = record { timeouts = default_timeouts; state_limit = 100000; block_policy = b.Drop; state_policy = policy.Floating; host_id = 1; skipped = [] }
