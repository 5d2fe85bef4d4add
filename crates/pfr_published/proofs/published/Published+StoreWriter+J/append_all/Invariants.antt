use Rattle.std.proofs.Common.{◌≡◌, ◌++◌, take}
use Rattle.pfr_published.specs.Ends.{shown_by, shown_next}
use Rattle.pfr_published.proofs.published.Published+StoreWriter+J.append_all.Given as goal

abbrev pub invariant-loop-index : goal.invariant-loop-index
invariant-loop-index g l = record {
  desk : l.writer.desk ≡ l.fn.writer.desk;
  front : l.front ≡ (shown_by l.fn.writer).changes ++ take l.index l.fn.changes.items;
  list : (shown_next l.writer).changes ≡ l.front;
  shown : (shown_next l.writer).is_shown ≡ (shown_by l.fn.writer).is_shown;
}
