use Rattle.std.proofs.Common.{◌≡◌, ◌++◌, drop}
use Rattle.pfr_rewrite.specs.Adapting as spec
use Rattle.pfr_rewrite.proofs.adapting.findings_of.Given as goal

abbrev pub invariant-loop-change : goal.invariant-loop-change
invariant-loop-change l = l.findings ++ spec.findings_of (drop l.change-index l.changes) ≡ spec.findings_of l.changes
