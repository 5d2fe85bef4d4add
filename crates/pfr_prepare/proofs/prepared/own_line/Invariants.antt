use Rattle.std.proofs.Common.{◌≡◌, drop}
use Rattle.pfr_prepare.specs.Lines as spec
use Rattle.pfr_prepare.proofs.prepared.own_line.Given as goal

abbrev pub invariant-loop-origin : goal.invariant-loop-origin
invariant-loop-origin l = spec.own_line l.line (drop l.origin-index l.origins) ≡ spec.own_line l.line l.origins
