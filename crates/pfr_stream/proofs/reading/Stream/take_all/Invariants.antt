use Rattle.std.proofs.Common.{◌≡◌, IsTrue}
use Rattle.pfr_stream.specs.Reading.{TakesOn, ahead_of}
use Rattle.pfr_stream.proofs.reading.Stream.take_all.Given as goal

abbrev pub invariant-loop-ending : goal.invariant-loop-ending
invariant-loop-ending g l = record {
  told : g.R.Source.told l.source ≡ g.R.Source.told l.fn.source;
  framing : l.self.framing ≡ l.fn.self.framing;
  takes_on : IsTrue (g.R.Source.told l.fn.source) → TakesOn l.fn.self l.self (g.R.Source.unread l.fn.source) (g.R.Source.unread l.source);
  failures : g.R.Source.failures l.source ≡ g.R.Source.failures l.fn.source;
}

abbrev pub decreases-loop-ending : goal.decreases-loop-ending
decreases-loop-ending g l = ahead_of l.self
