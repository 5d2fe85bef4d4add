use Rattle.pfr_feed.specs.Runs.{AreViewed}
use Rattle.pfr_feed.proofs.packets.viewed.Given as goal

abbrev pub invariant-loop-packet : goal.invariant-loop-packet
invariant-loop-packet l = AreViewed l.yielded l.packets.items
