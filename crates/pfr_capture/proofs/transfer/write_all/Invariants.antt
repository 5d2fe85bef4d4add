use Rattle.std.proofs.Common.{◌≡◌, IsTrue, length}
use Rattle.pfr_capture.specs.Device.{Added}
use Rattle.pfr_capture.proofs.transfer.write_all.Given as goal

abbrev pub invariant-loop-rest : goal.invariant-loop-rest
invariant-loop-rest g l = record {
  told : g.S.Sink.told l.sink ≡ g.S.Sink.told l.fn.sink;
  written : IsTrue (g.S.Sink.told l.fn.sink) → Added (g.S.Sink.written l.fn.sink) (g.S.Sink.written l.sink) l.piece l.rest;
  failures : g.S.Sink.failures l.sink ≡ g.S.Sink.failures l.fn.sink;
}

abbrev pub decreases-loop-rest : goal.decreases-loop-rest
decreases-loop-rest g l = length l.rest
