use Rattle.std.proofs.Common.{◌≡◌, map}
use Rattle.pfr_commit.specs.Emissions.{by_place}
use Rattle.pfr_out.proofs.PlaceLemmas.{GrewTo}
use Rattle.pfr_out.proofs.packet_sinks.write_each.Given as goal

abbrev pub invariant-loop-place : goal.invariant-loop-place
invariant-loop-place g l = record {
  told : map g.S.Sink.told l.sinks ≡ map g.S.Sink.told l.fn.sinks;
  failures : map g.S.Sink.failures l.sinks ≡ map g.S.Sink.failures l.fn.sinks;
  grew : GrewTo g.S.Sink.told g.S.Sink.written (by_place (map g.T.AsSlice.items l.texts)) l.fn.sinks l.sinks l.place;
}
