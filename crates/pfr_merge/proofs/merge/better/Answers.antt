use Rattle.std.proofs.Common.{◌∙◌, sym}
use Rattle.pfr_merge.proofs.LeastLemmas.{least_by_earlier}
use Rattle.pfr_merge.proofs.merge.better.Goals as goal

pub returns-then-is_before : goal.returns-then-is_before
returns-then-is_before c =
    λ times at least.
    least_by_earlier times c.args.place _ _ c.in-Some.time (rw c.in-Some-best.is at least) (rw c.in-Some.is at at) (sym c.is_before.ensures ∙ c.if-is_before.true)
