use Rattle.std.proofs.Common.{refl, rules, arith}
use Rattle.std.proofs.lemmas.Option.{slice_get-get_or, slice_get_within}
use Rattle.pfr_merge.specs.MergeReading.{form_in, header_in}
use Rattle.pfr_merge.proofs.RefillAllLemmas.{again_on, all_refilled_none, failures_on, fails_on, kept_on, lacks_on, no_error_settled, passes_on, reads_on, same_on, settled_on, stays_on, stopped_on, stops_on, told_on}
use Rattle.pfr_merge.proofs.merge.refill_all.Goals as goal

pub loop-place-init : goal.loop-place-init
loop-place-init g c = record {
  told = refl;
  long = c.requires;
  reads = λ told. all_refilled_none g.S.Source.unread c.args.inputs.now c.args.sources.now c.requires;
  forms = refl;
  headers = refl;
  counted = λ count passed. passed;
  settled = λ k w below at. absurd (omega arith);
  kept = λ k from. refl;
  stays = λ settled. (refl, refl);
  stops = λ place e stop. omega arith;
  failures = refl;
}

pub returns-in-Err-clause-told : goal.returns-in-Err-clause-told
returns-in-Err-clause-told g c =
    told_on c.args.inputs.now c.loop-place.inputs c.args.sources.now c.loop-place.sources c.loop-place.place _ c.refill.new.self _ c.refill.new.source (slice_get-get_or c.loop-place.inputs c.loop-place.place c.index-inputs-place.result (omega arith)) (slice_get-get_or c.loop-place.sources c.loop-place.place c.index-sources-place.result (omega arith)) g.S.Source.told c.refill.ensures.told c.loop-place.invariant.told

pub returns-in-Err-clause-reads : goal.returns-in-Err-clause-reads
returns-in-Err-clause-reads g c =
    reads_on c.args.inputs.now c.loop-place.inputs c.args.sources.now c.loop-place.sources c.loop-place.place _ c.refill.new.self _ c.refill.new.source (slice_get-get_or c.loop-place.inputs c.loop-place.place c.index-inputs-place.result (omega arith)) (slice_get-get_or c.loop-place.sources c.loop-place.place c.index-sources-place.result (omega arith)) g.S.Source.told g.S.Source.unread c.loop-place.invariant.told c.loop-place.invariant.reads c.refill.ensures.reads

pub returns-in-Err-clause-forms : goal.returns-in-Err-clause-forms
returns-in-Err-clause-forms g c =
    same_on c.args.inputs.now c.loop-place.inputs c.args.sources.now c.loop-place.sources c.loop-place.place _ c.refill.new.self _ c.refill.new.source (slice_get-get_or c.loop-place.inputs c.loop-place.place c.index-inputs-place.result (omega arith)) (slice_get-get_or c.loop-place.sources c.loop-place.place c.index-sources-place.result (omega arith)) form_in c.refill.ensures.form c.loop-place.invariant.forms

pub returns-in-Err-clause-headers : goal.returns-in-Err-clause-headers
returns-in-Err-clause-headers g c =
    same_on c.args.inputs.now c.loop-place.inputs c.args.sources.now c.loop-place.sources c.loop-place.place _ c.refill.new.self _ c.refill.new.source (slice_get-get_or c.loop-place.inputs c.loop-place.place c.index-inputs-place.result (omega arith)) (slice_get-get_or c.loop-place.sources c.loop-place.place c.index-sources-place.result (omega arith)) header_in c.refill.ensures.header c.loop-place.invariant.headers

pub returns-in-Err-clause-counted : goal.returns-in-Err-clause-counted
returns-in-Err-clause-counted g c =
    passes_on c.args.inputs.now c.loop-place.inputs c.args.sources.now c.loop-place.sources c.loop-place.place _ c.refill.new.self _ c.refill.new.source (slice_get-get_or c.loop-place.inputs c.loop-place.place c.index-inputs-place.result (omega arith)) (slice_get-get_or c.loop-place.sources c.loop-place.place c.index-sources-place.result (omega arith)) c.loop-place.invariant.counted c.refill.ensures.counts

pub returns-in-Err-clause-stopped : goal.returns-in-Err-clause-stopped
returns-in-Err-clause-stopped g c =
    stopped_on c.args.inputs.now c.loop-place.inputs c.args.sources.now c.loop-place.sources c.loop-place.place _ c.refill.new.self _ c.refill.new.source (slice_get-get_or c.loop-place.inputs c.loop-place.place c.index-inputs-place.result (omega arith)) (slice_get-get_or c.loop-place.sources c.loop-place.place c.index-sources-place.result (omega arith)) c.in-Err.e c.loop-place.invariant.settled c.in-Err.ensures.stopped

pub returns-in-Err-clause-stays : goal.returns-in-Err-clause-stays
returns-in-Err-clause-stays g c =
    λ settled. absurd (no_error_settled c.args.inputs.now c.loop-place.inputs c.args.sources.now c.loop-place.sources c.loop-place.place _ c.refill.new.self _ c.refill.new.source (slice_get-get_or c.loop-place.inputs c.loop-place.place c.index-inputs-place.result (omega arith)) (slice_get-get_or c.loop-place.sources c.loop-place.place c.index-sources-place.result (omega arith)) c.in-Err.e c.in-Err.ensures.stays c.loop-place.invariant.kept settled)

pub returns-in-Err-clause-again : goal.returns-in-Err-clause-again
returns-in-Err-clause-again g c =
    λ stop stops.
    (again_on c.args.inputs.now c.loop-place.inputs c.args.sources.now c.loop-place.sources c.loop-place.place _ c.refill.new.self _ c.refill.new.source (slice_get-get_or c.loop-place.inputs c.loop-place.place c.index-inputs-place.result (omega arith)) (slice_get-get_or c.loop-place.sources c.loop-place.place c.index-sources-place.result (omega arith)) c.in-Err.e c.loop-place.invariant.stays c.in-Err.ensures.stays c.in-Err.ensures.again c.loop-place.invariant.kept c.loop-place.invariant.stops stop.0 stop.1 stops).0

pub returns-in-Err-clause-still : goal.returns-in-Err-clause-still
returns-in-Err-clause-still g c =
    λ stop stops.
    let again = again_on c.args.inputs.now c.loop-place.inputs c.args.sources.now c.loop-place.sources c.loop-place.place _ c.refill.new.self _ c.refill.new.source (slice_get-get_or c.loop-place.inputs c.loop-place.place c.index-inputs-place.result (omega arith)) (slice_get-get_or c.loop-place.sources c.loop-place.place c.index-sources-place.result (omega arith)) c.in-Err.e c.loop-place.invariant.stays c.in-Err.ensures.stays c.in-Err.ensures.again c.loop-place.invariant.kept c.loop-place.invariant.stops stop.0 stop.1 stops in
    (again.1, again.2)

pub returns-in-Err-clause-lacks : goal.returns-in-Err-clause-lacks
returns-in-Err-clause-lacks g c =
    lacks_on c.args.inputs.now c.loop-place.inputs c.args.sources.now c.loop-place.sources c.loop-place.place _ c.refill.new.self _ c.refill.new.source (slice_get-get_or c.loop-place.inputs c.loop-place.place c.index-inputs-place.result (omega arith)) (slice_get-get_or c.loop-place.sources c.loop-place.place c.index-sources-place.result (omega arith)) c.in-Err.e c.loop-place.invariant.kept c.in-Err.ensures.lacks c.in-Err.ensures.ends

pub returns-in-Err-clause-failed : goal.returns-in-Err-clause-failed
returns-in-Err-clause-failed g c =
    fails_on c.args.inputs.now c.loop-place.inputs c.args.sources.now c.loop-place.sources c.loop-place.place _ c.refill.new.self _ c.refill.new.source (slice_get-get_or c.loop-place.inputs c.loop-place.place c.index-inputs-place.result (omega arith)) (slice_get-get_or c.loop-place.sources c.loop-place.place c.index-sources-place.result (omega arith)) g.S.Source.failures c.in-Err.e c.loop-place.invariant.kept c.loop-place.invariant.failures c.in-Err.ensures.failed c.in-Err.ensures.ends

pub loop-place-preserved : goal.loop-place-preserved
loop-place-preserved g c = record {
  told = told_on c.args.inputs.now c.loop-place.inputs c.args.sources.now c.loop-place.sources c.loop-place.place _ c.refill.new.self _ c.refill.new.source (slice_get-get_or c.loop-place.inputs c.loop-place.place c.index-inputs-place.result (omega arith)) (slice_get-get_or c.loop-place.sources c.loop-place.place c.index-sources-place.result (omega arith)) g.S.Source.told c.refill.ensures.told c.loop-place.invariant.told;
  long = search rules;
  reads = reads_on c.args.inputs.now c.loop-place.inputs c.args.sources.now c.loop-place.sources c.loop-place.place _ c.refill.new.self _ c.refill.new.source (slice_get-get_or c.loop-place.inputs c.loop-place.place c.index-inputs-place.result (omega arith)) (slice_get-get_or c.loop-place.sources c.loop-place.place c.index-sources-place.result (omega arith)) g.S.Source.told g.S.Source.unread c.loop-place.invariant.told c.loop-place.invariant.reads c.refill.ensures.reads;
  forms = same_on c.args.inputs.now c.loop-place.inputs c.args.sources.now c.loop-place.sources c.loop-place.place _ c.refill.new.self _ c.refill.new.source (slice_get-get_or c.loop-place.inputs c.loop-place.place c.index-inputs-place.result (omega arith)) (slice_get-get_or c.loop-place.sources c.loop-place.place c.index-sources-place.result (omega arith)) form_in c.refill.ensures.form c.loop-place.invariant.forms;
  headers = same_on c.args.inputs.now c.loop-place.inputs c.args.sources.now c.loop-place.sources c.loop-place.place _ c.refill.new.self _ c.refill.new.source (slice_get-get_or c.loop-place.inputs c.loop-place.place c.index-inputs-place.result (omega arith)) (slice_get-get_or c.loop-place.sources c.loop-place.place c.index-sources-place.result (omega arith)) header_in c.refill.ensures.header c.loop-place.invariant.headers;
  counted = passes_on c.args.inputs.now c.loop-place.inputs c.args.sources.now c.loop-place.sources c.loop-place.place _ c.refill.new.self _ c.refill.new.source (slice_get-get_or c.loop-place.inputs c.loop-place.place c.index-inputs-place.result (omega arith)) (slice_get-get_or c.loop-place.sources c.loop-place.place c.index-sources-place.result (omega arith)) c.loop-place.invariant.counted c.refill.ensures.counts;
  settled = settled_on c.args.inputs.now c.loop-place.inputs c.args.sources.now c.loop-place.sources c.loop-place.place _ c.refill.new.self _ c.refill.new.source (slice_get-get_or c.loop-place.inputs c.loop-place.place c.index-inputs-place.result (omega arith)) (slice_get-get_or c.loop-place.sources c.loop-place.place c.index-sources-place.result (omega arith)) c.loop-place.invariant.settled c.in-Ok.ensures.settled;
  kept = kept_on c.args.inputs.now c.loop-place.inputs c.args.sources.now c.loop-place.sources c.loop-place.place _ c.refill.new.self _ c.refill.new.source (slice_get-get_or c.loop-place.inputs c.loop-place.place c.index-inputs-place.result (omega arith)) (slice_get-get_or c.loop-place.sources c.loop-place.place c.index-sources-place.result (omega arith)) c.loop-place.invariant.kept;
  stays = stays_on c.args.inputs.now c.loop-place.inputs c.args.sources.now c.loop-place.sources c.loop-place.place _ c.refill.new.self _ c.refill.new.source (slice_get-get_or c.loop-place.inputs c.loop-place.place c.index-inputs-place.result (omega arith)) (slice_get-get_or c.loop-place.sources c.loop-place.place c.index-sources-place.result (omega arith)) c.refill.result c.loop-place.invariant.stays c.refill.ensures.stays;
  stops = stops_on c.args.inputs.now c.loop-place.inputs c.args.sources.now c.loop-place.sources c.loop-place.place _ c.refill.new.self _ c.refill.new.source (slice_get-get_or c.loop-place.inputs c.loop-place.place c.index-inputs-place.result (omega arith)) (slice_get-get_or c.loop-place.sources c.loop-place.place c.index-sources-place.result (omega arith)) c.in-Ok.ensures.again c.loop-place.invariant.kept c.loop-place.invariant.stops;
  failures = failures_on c.args.inputs.now c.loop-place.inputs c.args.sources.now c.loop-place.sources c.loop-place.place _ c.refill.new.self _ c.refill.new.source (slice_get-get_or c.loop-place.inputs c.loop-place.place c.index-inputs-place.result (omega arith)) (slice_get-get_or c.loop-place.sources c.loop-place.place c.index-sources-place.result (omega arith)) g.S.Source.failures c.in-Ok.ensures.ok c.loop-place.invariant.failures;
}

pub returns-clause-settled : goal.returns-clause-settled
returns-clause-settled g c =
    λ k w at.
    let within = slice_get_within c.loop-place.inputs k w at in
    c.loop-place.invariant.settled k w (omega arith) at

pub returns-clause-again : goal.returns-clause-again
returns-clause-again g c =
    λ stop stops.
    let from = c.loop-place.invariant.stops stop.0 stop.1 stops in
    let within = slice_get_within c.args.inputs.now stop.0 stops.at stops.stands in
    absurd (omega arith)

pub returns-clause-still : goal.returns-clause-still
returns-clause-still g c =
    λ stop stops.
    let from = c.loop-place.invariant.stops stop.0 stop.1 stops in
    let within = slice_get_within c.args.inputs.now stop.0 stops.at stops.stands in
    absurd (omega arith)
