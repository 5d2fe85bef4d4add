use Rattle.std.proofs.Common.{rules, subst, sym, arith}
use Rattle.std.proofs.lemmas.Option.{slice_get-get_or}
use Rattle.pfr_merge.specs.MergeReading.{AllTold}
use Rattle.pfr_merge.proofs.RefillAllLemmas.{told_at}
use Rattle.pfr_merge.proofs.OpeningLemmas.{fresh_more, opened_on, opening_fails, opening_stops, same_at}
use Rattle.pfr_merge.proofs.merge.open_each.Goals as goal

pub returns-in-Err-push-clause-told : goal.returns-in-Err-push-clause-told
returns-in-Err-push-clause-told g c =
    same_at c.args.sources.now c.loop-place.sources c.loop-place.place _ c.open.new.source (slice_get-get_or c.loop-place.sources c.loop-place.place c.index-sources-place.result (omega arith)) g.S.Source.told c.open.ensures.told c.loop-place.invariant.told

pub returns-in-Err-push-clause-failed : goal.returns-in-Err-push-clause-failed
returns-in-Err-push-clause-failed g c =
    same_at c.args.sources.now c.loop-place.sources c.loop-place.place _ c.open.new.source (slice_get-get_or c.loop-place.sources c.loop-place.place c.index-sources-place.result (omega arith)) g.S.Source.failures c.in-Ok.ensures.ok c.loop-place.invariant.failures

pub returns-in-Err-clause-told : goal.returns-in-Err-clause-told
returns-in-Err-clause-told g c =
    same_at c.args.sources.now c.loop-place.sources c.loop-place.place _ c.open.new.source (slice_get-get_or c.loop-place.sources c.loop-place.place c.index-sources-place.result (omega arith)) g.S.Source.told c.open.ensures.told c.loop-place.invariant.told

pub returns-in-Err-clause-stops : goal.returns-in-Err-clause-stops
returns-in-Err-clause-stops g c =
    λ told.
    let here = told_at g.S.Source.told c.loop-place.sources c.loop-place.place _ (subst AllTold (sym c.loop-place.invariant.told) told) (slice_get-get_or c.loop-place.sources c.loop-place.place c.index-sources-place.result (omega arith)) in
    opening_stops c.args.sources.now c.loop-place.sources c.loop-place.place _ c.open.new.source (slice_get-get_or c.loop-place.sources c.loop-place.place c.index-sources-place.result (omega arith)) g.S.Source.unread c.loop-place.captures.items c.loop-place.invariant.long (c.loop-place.invariant.opens told) c.in-Err.e _ _ (c.in-Err.ensures.early here) (c.in-Err.ensures.refused here) c.in-Err.ensures.failed

pub returns-in-Err-clause-failed : goal.returns-in-Err-clause-failed
returns-in-Err-clause-failed g c =
    opening_fails c.args.sources.now c.loop-place.sources c.loop-place.place _ c.open.new.source (slice_get-get_or c.loop-place.sources c.loop-place.place c.index-sources-place.result (omega arith)) g.S.Source.failures c.loop-place.invariant.failures c.in-Err.e c.in-Err.ensures.failed

pub loop-place-preserved : goal.loop-place-preserved
loop-place-preserved g c = record {
  told = same_at c.args.sources.now c.loop-place.sources c.loop-place.place _ c.open.new.source (slice_get-get_or c.loop-place.sources c.loop-place.place c.index-sources-place.result (omega arith)) g.S.Source.told c.open.ensures.told c.loop-place.invariant.told;
  failures = same_at c.args.sources.now c.loop-place.sources c.loop-place.place _ c.open.new.source (slice_get-get_or c.loop-place.sources c.loop-place.place c.index-sources-place.result (omega arith)) g.S.Source.failures c.in-Ok.ensures.ok c.loop-place.invariant.failures;
  count = search rules;
  long = search rules;
  fresh = rw c.in-Ok-push.ensures.items (fresh_more c.loop-place.captures.items c.in-Ok.capture c.loop-place.invariant.fresh c.in-Ok.ensures.starts);
  opens = λ told.
      let here = told_at g.S.Source.told c.loop-place.sources c.loop-place.place _ (subst AllTold (sym c.loop-place.invariant.told) told) (slice_get-get_or c.loop-place.sources c.loop-place.place c.index-sources-place.result (omega arith)) in
      rw c.in-Ok-push.ensures.items
      (opened_on c.args.sources.now c.loop-place.sources c.loop-place.place _ c.open.new.source (slice_get-get_or c.loop-place.sources c.loop-place.place c.index-sources-place.result (omega arith)) g.S.Source.unread c.loop-place.captures.items c.loop-place.invariant.long (c.loop-place.invariant.opens told) c.in-Ok.capture (c.in-Ok.ensures.opens here));
}
