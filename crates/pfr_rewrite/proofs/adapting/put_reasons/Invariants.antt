use Rattle.std.proofs.Common.{◌≡◌, ◌++◌, drop}
use Rattle.pfr_rewrite.specs.Adapting as spec
use Rattle.pfr_rewrite.proofs.adapting.put_reasons.Given as goal

abbrev pub invariant-loop-reason : goal.invariant-loop-reason
invariant-loop-reason l = l.findings ++ spec.findings_for l.finding (drop l.reason-index l.reasons) ≡ l.fn.findings ++ spec.findings_for l.finding l.reasons
