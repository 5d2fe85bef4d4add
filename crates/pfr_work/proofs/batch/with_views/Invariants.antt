use Rattle.std.proofs.Common.{◌≡◌, ◌++◌}
use Rattle.std.specs.Vec.Iter.{into_iter_items}
use Rattle.pfr_feed.specs.Runs.{AreViewed}
use Rattle.pfr_work.proofs.batch.with_views.Given as goal

abbrev pub invariant-loop-packet : goal.invariant-loop-packet
invariant-loop-packet l = record {
  next : (goal.iterator-loop-packet).can_next l.packet-iterator;
  finite : (goal.iterator-loop-packet).is_finite l.packet-iterator;
  split : l.yielded ++ into_iter_items l.packet-iterator ≡ into_iter_items l.initial.packet-iterator;
  viewed : AreViewed l.yielded l.packets.items;
}
