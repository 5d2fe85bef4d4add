use Rattle.std.proofs.Common.{◌++◌, ◌∷◌, arith, inl, inr, subst, sym}
use Rattle.std.specs.BinaryHeap.{heap_items}
use Rattle.std.specs.List.Sorted.{IsPermutation}
use Rattle.std.specs.declared.cmp.Reverse.{Reverse}
use Rattle.std.proofs.lemmas.Bool.{cases_lt}
use Rattle.pfr_deadlines.specs.Waits.{Wait}
use Rattle.pfr_deadlines.specs.Wheel.{IsItemFrom}
use Rattle.pfr_deadlines.proofs.WheelLemmas.{fewer_by_one, moved_one, own_at, removed}
use Rattle.pfr_deadlines.proofs.wheel.take_before.Goals as goal

pub loop-index-preserved-then-wait-end : goal.loop-index-preserved-then-wait-end
loop-index-preserved-then-wait-end c =
    let bucket = c.loop-index.bucket.items in
    let rest = c.swap_remove.new.self.items in
    let out : IsPermutation bucket (c.index-wait.result.now ∷ rest) = removed bucket rest c.loop-index.index c.swap_remove.result c.index-wait.result.now (omega arith) c.swap_remove.ensures.value c.index-wait.ensures c.swap_remove.ensures.items in
    record {
      heap = λ was. c.in_ok-push.ensures.heap_order (c.loop-index.invariant.heap was);
      same = moved_one (heap_items c.args.near.now ++ c.args.bucket.now.items) (heap_items c.loop-index.near) bucket (heap_items c.push.new.self) rest c.index-wait.result.now c.loop-index.invariant.same c.in_ok-push.ensures.permutation out;
      fewer = fewer_by_one bucket rest c.args.bucket.now.items c.index-wait.result.now c.loop-index.invariant.fewer out;
      within = omega arith;
      done = λ k d below. subst (λ (wait : Reverse Wait). IsItemFrom c.args.end wait) (sym (c.swap_remove.ensures.by_index.1 k d (λ same. omega (arith, same, below)) (omega (arith, below)))) (c.loop-index.invariant.done k d below);
    }

pub loop-index-smaller : goal.loop-index-smaller
loop-index-smaller c = omega arith

pub loop-index-preserved : goal.loop-index-preserved
loop-index-preserved c = record {
  heap = c.loop-index.invariant.heap;
  same = c.loop-index.invariant.same;
  fewer = c.loop-index.invariant.fewer;
  within = omega arith;
  done = λ k d below. elim (cases_lt k c.loop-index.index) [
    | inl less ↦ c.loop-index.invariant.done k d less
    | inr above ↦ own_at c.loop-index.bucket.items c.loop-index.index k c.index-wait.result.now d c.args.end (omega arith) (omega arith) c.index-wait.ensures c.if-wait-end.false
  ];
}

pub returns-clause-done : goal.returns-clause-done
returns-clause-done c = λ k d below. c.loop-index.invariant.done k d (omega (arith, below))
