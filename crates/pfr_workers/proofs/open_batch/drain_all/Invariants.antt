use Rattle.std.proofs.Common.{◌≡◌, vec_len}
use Rattle.std.specs.List.{All}
use Rattle.pfr_workers.proofs.open_batch.drain_all.Given as goal

abbrev pub invariant-loop-pass : goal.invariant-loop-pass
invariant-loop-pass l = record {
  passes : All (λ pass. pass.batch ≡ l.claims) l.passes.items;
  ended : All (λ pass. pass.batch ≡ l.claims) l.ended.items;
}

abbrev pub decreases-loop-pass : goal.decreases-loop-pass
decreases-loop-pass l = vec_len l.passes
