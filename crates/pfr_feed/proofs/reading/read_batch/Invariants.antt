use Rattle.std.proofs.Common.{◌≡◌, ◌≤◌, ◌+◌, ◌-◌, ℕ, length, map}
use Rattle.pfr_merge.specs.MergeReading.{AllTold, HasPassedOn, NoneRefused, header_in}
use Rattle.pfr_feed.specs.Reading.{GaveRecords}
use Rattle.pfr_feed.proofs.reading.read_batch.Given as goal

abbrev pub invariant-loop-merge : goal.invariant-loop-merge
invariant-loop-merge g l = record {
  reading : NoneRefused l.merge;
  lengths : (length l.sources ≡ length l.fn.sources) × (length l.merge ≡ length l.fn.merge);
  told : map g.R.Source.told l.sources ≡ map g.R.Source.told l.fn.sources;
  failures : map g.R.Source.failures l.sources ≡ map g.R.Source.failures l.fn.sources;
  headers : map header_in l.merge ≡ map header_in l.fn.merge;
  counted : (count : ℕ) → HasPassedOn count l.fn.merge → HasPassedOn (count + length l.records.items) l.merge;
  at_most : length l.records.items ≤ l.most;
  on : AllTold (map g.R.Source.told l.fn.sources) → GaveRecords l.fn.merge l.merge (map g.R.Source.unread l.fn.sources) (map g.R.Source.unread l.sources) l.records.items;
}

abbrev pub decreases-loop-merge : goal.decreases-loop-merge
decreases-loop-merge g l = l.most - length l.records.items
