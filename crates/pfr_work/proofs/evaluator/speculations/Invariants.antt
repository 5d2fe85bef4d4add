use Rattle.std.proofs.Common.{◌≡◌, Some}
use Rattle.std.specs.Arc.{arc_value}
use Rattle.std.specs.List.{All}
use Rattle.pfr_work.proofs.evaluator.speculations.Given as goal

abbrev pub invariant-loop-speculations : goal.invariant-loop-speculations
invariant-loop-speculations g l = All (λ group. All (λ speculation. g.J.OfRun.job ≡ Some (arc_value speculation.job)) group.items) l.groups.items
