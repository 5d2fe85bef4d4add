use Rattle.std.proofs.Common.{◌≡◌}
use Rattle.std.specs.List.{All}
use Rattle.pfr_workers.proofs.open_batch.receive.Given as goal

abbrev pub invariant-loop-reply : goal.invariant-loop-reply
invariant-loop-reply g l = record {
  next : (goal.iterator-loop-reply g).can_next l.reply-iterator;
  finite : (goal.iterator-loop-reply g).is_finite l.reply-iterator;
  ended : All (λ pass. pass.batch ≡ l.claims) l.returned.ended.items;
}
