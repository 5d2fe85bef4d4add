use Rattle.std.proofs.Common.{◌≡◌, ◌+◌, drop}
use Rattle.pfr_phrases.specs.Lengths as spec
use Rattle.pfr_phrases.proofs.lengths.group_behind.Given as goal

abbrev pub invariant-loop-before : goal.invariant-loop-before
invariant-loop-before l = spec.group_from (1 + l.before) l.opens l.closes (drop l.before l.behind) ≡ spec.group_from 1 l.opens l.closes l.behind
