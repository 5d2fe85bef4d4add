use Rattle.std.proofs.Common.{◌≡◌, ◌+◌, take}
use Rattle.std.specs.List.{count_by}
use Rattle.pfr_index.specs.Index.{Entry, times_in}
use Rattle.pfr_index.specs.Slots.{entries_of, is_held}
use Rattle.pfr_index.proofs.index.Index.rebuilt.Given as goal

abbrev pub invariant-loop-slot : goal.invariant-loop-slot
invariant-loop-slot l = record {
  times : (entry : Entry) → l.index.times entry ≡ times_in (entries_of (take l.slot-index l.slots)) entry;
  room : l.index.room + count_by is_held (take l.slot-index l.slots) ≡ l.count;
}
