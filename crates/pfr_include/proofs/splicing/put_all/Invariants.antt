use Rattle.std.proofs.Common.{◌≡◌, drop}
use Rattle.pfr_include.specs.Splicing as spec
use Rattle.pfr_include.proofs.splicing.put_all.Given as goal

abbrev pub invariant-loop-splice : goal.invariant-loop-splice
invariant-loop-splice l =
    spec.with_splices l.text l.lines l.made l.place (drop l.splice-index l.splices)
    ≡ spec.with_splices l.text l.lines l.fn.made spec.beginning l.splices
