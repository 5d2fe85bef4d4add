use Rattle.std.proofs.Common.{◌≡◌, length, map}
use Rattle.pfr_merge.specs.MergeReading.{AllTold}
use Rattle.pfr_merge.specs.Opening.{AreFresh, HaveOpened}
use Rattle.pfr_merge.proofs.merge.open_each.Given as goal

abbrev pub invariant-loop-place : goal.invariant-loop-place
invariant-loop-place g l = record {
  told : map g.S.Source.told l.sources ≡ map g.S.Source.told l.fn.sources;
  failures : map g.S.Source.failures l.sources ≡ map g.S.Source.failures l.fn.sources;
  count : length l.sources ≡ length l.fn.sources;
  long : length l.captures.items ≡ l.place;
  fresh : AreFresh l.captures.items;
  opens : AllTold (map g.S.Source.told l.fn.sources) → HaveOpened l.captures.items (map g.S.Source.unread l.fn.sources) (map g.S.Source.unread l.sources);
}
