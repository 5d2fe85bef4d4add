use Rattle.std.proofs.Common.{◌≡◌}
use Rattle.pfr_feed.proofs.reading.give_back.Given as goal

abbrev pub invariant-loop-packet : goal.invariant-loop-packet
invariant-loop-packet l = l.merge ≡ l.fn.merge
