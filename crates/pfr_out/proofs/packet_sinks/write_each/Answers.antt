use Rattle.std.proofs.Common.{◌≡◌, ◌∙◌, ◌<◌, [], length, map, ap, sym, arith}
use Rattle.std.proofs.lemmas.List.{get_or-map}
use Rattle.pfr_commit.specs.Emissions.{by_place}
use Rattle.pfr_out.proofs.PlaceLemmas.{grew_one, one_rose, stay_all, took_part}
use Rattle.pfr_out.proofs.packet_sinks.write_each.Goals as goal

pub returns-in-Err-clause-told : goal.returns-in-Err-clause-told
returns-in-Err-clause-told g c =
    stay_all g.S.Sink.told c.args.sinks.now c.loop-place.sinks c.loop-place.place c.index-sinks-place.result c.write_all.new.sink c.write_all.ensures.told c.loop-place.invariant.told

pub returns-in-Err-clause-fails : goal.returns-in-Err-clause-fails
returns-in-Err-clause-fails g c =
    let below : c.loop-place.place < length c.loop-place.sinks = omega arith in
    let text : by_place (map g.T.AsSlice.items c.args.texts.now) c.loop-place.place ≡ c.as_slice.result.now =
    get_or-map g.T.AsSlice.items c.args.texts.now c.loop-place.place c.index-texts-place.result [] (omega arith) ∙ ap g.T.AsSlice.items (sym c.index-texts-place.is) ∙ sym c.as_slice.ensures in
    took_part g.S.Sink.told g.S.Sink.written (by_place (map g.T.AsSlice.items c.args.texts.now)) c.args.sinks.now c.loop-place.sinks c.loop-place.place c.index-sinks-place.result c.write_all.new.sink below c.loop-place.invariant.told c.loop-place.invariant.grew
    (λ told. rw text (c.in-Err.ensures.part told))

pub returns-in-Err-clause-failure : goal.returns-in-Err-clause-failure
returns-in-Err-clause-failure g c =
    one_rose g.S.Sink.failures c.args.sinks.now c.loop-place.sinks c.loop-place.place c.index-sinks-place.result c.write_all.new.sink (omega arith) c.loop-place.invariant.failures c.in-Err.ensures.failure

pub loop-place-preserved : goal.loop-place-preserved
loop-place-preserved g c =
    let below : c.loop-place.place < length c.loop-place.sinks = omega arith in
    let text : by_place (map g.T.AsSlice.items c.args.texts.now) c.loop-place.place ≡ c.as_slice.result.now =
    get_or-map g.T.AsSlice.items c.args.texts.now c.loop-place.place c.index-texts-place.result [] (omega arith) ∙ ap g.T.AsSlice.items (sym c.index-texts-place.is) ∙ sym c.as_slice.ensures in
    record {
      told = stay_all g.S.Sink.told c.args.sinks.now c.loop-place.sinks c.loop-place.place c.index-sinks-place.result c.write_all.new.sink c.write_all.ensures.told c.loop-place.invariant.told;
      failures = stay_all g.S.Sink.failures c.args.sinks.now c.loop-place.sinks c.loop-place.place c.index-sinks-place.result c.write_all.new.sink c.in-Ok.ensures.no_failure c.loop-place.invariant.failures;
      grew = grew_one g.S.Sink.told g.S.Sink.written (by_place (map g.T.AsSlice.items c.args.texts.now)) c.args.sinks.now c.loop-place.sinks c.loop-place.place c.index-sinks-place.result c.write_all.new.sink below c.loop-place.invariant.told c.loop-place.invariant.grew
          (λ told. rw text (c.in-Ok.ensures.whole told));
    }
