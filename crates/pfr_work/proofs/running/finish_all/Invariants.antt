use Rattle.std.proofs.Common.{◌≡◌, List, [], ◌++◌, length, map}
use Rattle.pfr_claims.specs.Batches.{Batch}
use Rattle.pfr_work.specs.Traces.{CameBack}
use Rattle.pfr_work.specs.Turns.{Extends}
use Rattle.pfr_work.specs.Running.{AllRoom, claims_in}
use Rattle.pfr_work.proofs.running.finish_all.Given as goal

abbrev pub invariant-loop-open_batch : goal.invariant-loop-open_batch
invariant-loop-open_batch g l = record {
  room : AllRoom (length l.waiting.items) l.course.entries l.course.lost;
  gone : List Batch;
  split : map claims_in l.fn.waiting.items ≡ gone ++ map claims_in l.waiting.items;
  came : (back : List Batch) → CameBack back l.fn.course.entries.items l.fn.course.lost.items → CameBack (back ++ gone) l.course.entries.items l.course.lost.items;
  more : Extends l.fn.course.entries.items l.course.entries.items;
  none : map claims_in l.fn.waiting.items ≡ [] → l.course.lost.items ≡ l.fn.course.lost.items;
  others : (l.course.openings ≡ l.fn.course.openings) × (l.course.gave_up ≡ l.fn.course.gave_up);
}

abbrev pub decreases-loop-open_batch : goal.decreases-loop-open_batch
decreases-loop-open_batch g l = length l.waiting.items
