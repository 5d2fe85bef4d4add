use Rattle.std.proofs.Common.{◌≡◌, ◌-◌, [], vec_len}
use Rattle.std.specs.List.{All}
use Rattle.pfr_claims.specs.Batches.{batch_of, held}
use Rattle.pfr_claims.specs.Drawing.{knows}
use Rattle.pfr_claims.proofs.claims.deal.Given as goal

abbrev pub invariant-loop-worker : goal.invariant-loop-worker
invariant-loop-worker l = record {
  table : l.dealer.table_id ≡ l.table.shared.table_id;
  dealer : l.dealer.me ≡ (knows l.table.shared.key [] (l.workers - l._worker) 0, []);
  count : vec_len l.passes ≡ l._worker;
  passes : All (λ pass. pass ≡ held (batch_of l.table.shared.table_id l.table.shared.key) []) l.passes.items;
}
