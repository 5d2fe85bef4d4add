use Rattle.std.proofs.Common.{◌≡◌, drop}
use Rattle.std.specs.List.{list_any}
use Rattle.pfr_values.specs.Insides.{is_same}
use Rattle.pfr_values.proofs.inside.is_among.Given as goal

abbrev pub invariant-loop-other : goal.invariant-loop-other
invariant-loop-other l = list_any (is_same l.network) (drop l.other-index l.networks) ≡ list_any (is_same l.network) l.networks
