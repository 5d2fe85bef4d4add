use Rattle.std.proofs.Common.{◌-◌, refl, ap, arith}
use Rattle.pfr_claims.proofs.Moves.{deals_at}
use Rattle.pfr_claims.proofs.claims.deal.Goals as goal

pub split_seat-seat-requires : goal.split_seat-seat-requires
split_seat-seat-requires c = (
  c.loop-worker.invariant.table,
  omega (arith, c.requires.table.0),
  deals_at _ _ _ (c.args.workers - c.loop-worker._worker) _ (omega arith) refl (ap (λ me. me.0) c.loop-worker.invariant.dealer),
)
