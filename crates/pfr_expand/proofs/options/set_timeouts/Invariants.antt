use Rattle.std.proofs.Common.{◌≡◌, fold, take}
use Rattle.pfr_expand.specs.Options as spec
use Rattle.pfr_expand.proofs.options.set_timeouts.Given as goal

abbrev pub invariant-loop-setting : goal.invariant-loop-setting
invariant-loop-setting l = l.options ≡ fold spec.timeout_set l.fn.options (take l.setting-index l.settings)
