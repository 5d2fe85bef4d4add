use Rattle.std.proofs.Common.{◌≡◌, vec_len}
use Rattle.std.specs.Arc.{arc_value}
use Rattle.std.specs.List.{All}
use Rattle.pfr_workers.proofs.open_batch.give_all.Given as goal

abbrev pub invariant-loop-desk : goal.invariant-loop-desk
invariant-loop-desk g l = record {
  passes : All (λ pass. pass.batch ≡ arc_value l.claims) l.passes.items;
  kept : All (λ pass. pass.batch ≡ arc_value l.claims) l.kept.items;
}

abbrev pub invariant-loop-pass : goal.invariant-loop-pass
invariant-loop-pass g l = record {
  passes : All (λ pass. pass.batch ≡ arc_value l.claims) l.passes.items;
  kept : All (λ pass. pass.batch ≡ arc_value l.claims) l.kept.items;
}

abbrev pub decreases-loop-pass : goal.decreases-loop-pass
decreases-loop-pass g l = vec_len l.passes
