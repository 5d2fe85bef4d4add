use Rattle.std.proofs.Common.{◌≡◌, Some}
use Rattle.std.specs.Arc.{arc_value}
use Rattle.std.specs.List.{All}
use Rattle.std.proofs.lemmas.List.Elements.{All-push}
use Rattle.pfr_commit.specs.Results.{Group}
use Rattle.pfr_work.proofs.evaluator.speculations.Goals as goal

pub loop-speculations-preserved : goal.loop-speculations-preserved
loop-speculations-preserved g c =
    let of_run : Group → Type 0 = λ group. All (λ speculation. g.J.OfRun.job ≡ Some (arc_value speculation.job)) group.items in
    rw c.in_ok-push.ensures.items (All-push of_run c.loop-speculations.groups.items c.in-Some.field-0.speculations c.loop-speculations.invariant c.in-Some.field-0.own)
