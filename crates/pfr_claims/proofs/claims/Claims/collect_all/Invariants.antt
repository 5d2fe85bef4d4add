use Rattle.std.proofs.Common.{◌≡◌, ℕ, ◌+◌, [], ◌++◌}
use Rattle.std.specs.List.{All, concat}
use Rattle.std.specs.List.Sorted.{IsStrictlyIncreasing}
use Rattle.std.specs.Vec.Iter.{into_iter_items}
use Rattle.std.proofs.Common.{length}
use Rattle.pfr_claims.specs.Batches.{lists_of}
use Rattle.pfr_claims.specs.Counting.{times}
use Rattle.pfr_claims.specs.Drawing.{knows}
use Rattle.pfr_claims.proofs.claims.Claims.collect_all.Given as goal

abbrev pub invariant-loop-pass : goal.invariant-loop-pass
invariant-loop-pass l = record {
  next : (goal.iterator-loop-pass).can_next l.pass-iterator;
  finite : (goal.iterator-loop-pass).is_finite l.pass-iterator;
  split : l.yielded ++ into_iter_items l.pass-iterator ≡ into_iter_items l.initial.pass-iterator;
  own : All (λ pass. pass.batch ≡ l.self) (into_iter_items l.pass-iterator);
  table : l.all.table_id ≡ l.self.table;
  knows : l.all.me ≡ (knows l.self.sizes l.all.me.0.drawn 0 (length l.yielded + 1), []);
  rising : All (λ pass. IsStrictlyIncreasing pass.drawn) l.yielded;
  drawn : (number : ℕ) → times number l.all.me.0.drawn ≡ times number l.initial.all.me.0.drawn + times number (concat (lists_of l.yielded));
}
