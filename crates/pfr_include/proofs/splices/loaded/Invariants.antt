use Rattle.std.proofs.Common.{◌≡◌, drop}
use Rattle.pfr_include.specs.Splices as spec
use Rattle.pfr_include.proofs.splices.loaded.Given as goal

abbrev pub invariant-loop-loading : goal.invariant-loop-loading
invariant-loop-loading l = spec.loaded l.name (drop l.loading-index l.loadings) ≡ spec.loaded l.name l.loadings
