use Rattle.std.proofs.Common.{◌≡◌, ◌++◌, IsTrue, List, ℕ}
use Rattle.pfr_capture.specs.Device.{Added}
use Rattle.pfr_stream.specs.Lines.{lines}
use Rattle.pfr_stream.proofs.lines.write_lines.Given as goal

-- Lines of the states so far are written or gathered, and those of the others follow.
abbrev pub invariant-loop-number : goal.invariant-loop-number
invariant-loop-number g l = record {
  told : g.S.Sink.told l.sink ≡ g.S.Sink.told l.fn.sink;
  way : IsTrue (g.S.Sink.told l.fn.sink) → (text : List ℕ) × Added (g.S.Sink.written l.fn.sink) (g.S.Sink.written l.sink) text l.gathered × (text ++ lines l.number-iterator ≡ lines l.standby);
  failures : g.S.Sink.failures l.sink ≡ g.S.Sink.failures l.fn.sink;
}
