use Rattle.std.proofs.Common.{◌≡◌, ℕ, List, ◌+◌, ◌≤◌, ◌∙◌, map, length, refl, sym, subst, arith}
use Rattle.std.proofs.lemmas.List.{length-map, length_push}
use Rattle.pfr_merge.specs.MergeReading.{AllTold}
use Rattle.pfr_merge.specs.Opening.{ReadingFails}
use Rattle.pfr_merge.proofs.CountLemmas.{passes_fewer}
use Rattle.pfr_merge.proofs.ListLemmas.{reading_fails}
use Rattle.pfr_merge.proofs.MergeReadingLemmas.{merges_none}
use Rattle.pfr_merge.proofs.RefillAllLemmas.{all_refilled_none}
use Rattle.pfr_feed.proofs.ReadingLemmas.{batch_refused, gave_of, gives_no_more, gives_none, gives_one, gives_twice}
use Rattle.pfr_feed.proofs.reading.read_batch.Goals as goal

pub loop-merge-init : goal.loop-merge-init
loop-merge-init g c = rw c.begin_batch.ensures (record {
  reading = c.requires.reading;
  lengths = (refl, refl);
  told = refl;
  failures = refl;
  headers = refl;
  counted = λ count passed.
      let same : count + length c.args.records.now.items ≡ count = rw c.requires.none (omega arith) in
      rw same passed;
  at_most = rw c.requires.none (omega arith);
  on = λ told. rw c.requires.none (gives_none _ _ (merges_none _ _ _ _ (all_refilled_none g.R.Source.unread c.args.merge.now c.args.sources.now c.requires.captures.0)));
})

pub loop-merge-preserved : goal.loop-merge-preserved
loop-merge-preserved g c =
    let i = c.loop-merge.invariant in
    let e = c.in-Ok-Some.ensures in
    let done = c.in-Ok.ensures.items in
    let long = length_push c.loop-merge.records.items c.in-Ok-Some.given in
    let test = c.loop-merge-test.true in
    let held = c.len.ensures in
    record {
      reading = e.running;
      lengths = (c.next.auto.sources ∙ i.lengths.0, e.length ∙ i.lengths.1);
      told = e.told ∙ i.told;
      failures = e.ok ∙ i.failures;
      headers = e.headers ∙ i.headers;
      counted = λ count passed.
          let after = rw c.in-Ok-Some.field-0-is at (e.counted (count + length c.loop-merge.records.items) (i.counted count passed)) in
          let same : count + length c.push.new.self.items ≡ (count + length c.loop-merge.records.items) + 1 = rw done (omega (arith, long)) in
          rw same after;
      at_most = (let all : length c.push.new.self.items ≡ length c.loop-merge.records.items + 1 = rw done long in omega (arith, all, test, held));
      on = λ told.
          let mid : AllTold (map g.R.Source.told c.loop-merge.sources) = rw i.told told in
          let most = i.lengths.1 in
          let few = c.requires.captures.1 in
          let short : length c.loop-merge.merge ≤ 8 = omega (arith, most, few) in
          rw done (gives_twice _ _ _ _ _ _ _ _ (i.on told) (gives_one _ _ _ _ c.in-Ok-Some._place c.in-Ok-Some.given short (rw c.in-Ok-Some.field-0-is at e.form) (rw c.in-Ok-Some.field-0-is at (e.reads mid))));
    }

pub returns-in-Err-push : goal.returns-in-Err-push
returns-in-Err-push g c =
    let i = c.loop-merge.invariant in
    let e = c.in-Ok-Some.ensures in
    let sources_long = length-map c.next.new.sources g.R.Source.unread ∙ c.next.auto.sources ∙ i.lengths.0 ∙ sym (length-map c.args.sources.now g.R.Source.unread) in
    let most = i.lengths.1 in
    let few = c.requires.captures.1 in
    let short : length c.loop-merge.merge ≤ 8 = omega (arith, most, few) in
    record {
      told = e.told ∙ i.told;
      captures = (c.next.auto.sources ∙ i.lengths.0, e.length ∙ i.lengths.1);
      headers = e.headers ∙ i.headers;
      at_most = rw c.in-Err-push.ensures.items i.at_most;
      full = λ is. absurd (cc);
      goes_on = λ is. absurd (cc);
      counted = λ count passed.
          let after = e.counted (count + length c.loop-merge.records.items) (i.counted count passed) in
          rw c.in-Err-push.ensures.items (passes_fewer _ _ _ (omega arith) after);
      says = λ told.
          let mid : AllTold (map g.R.Source.told c.loop-merge.sources) = rw i.told told in
          gave_of _ _ _ _ _ (gives_twice _ _ _ _ _ _ _ _ (i.on told) (gives_one _ _ _ _ c.in-Ok-Some._place c.in-Ok-Some.given short (rw c.in-Ok-Some.field-0-is at e.form) (rw c.in-Ok-Some.field-0-is at (e.reads mid)))) sources_long;
      failures = e.ok ∙ i.failures;
    }

pub returns-in-Ok-None : goal.returns-in-Ok-None
returns-in-Ok-None g c =
    let i = c.loop-merge.invariant in
    let e = c.in-Ok-None.ensures in
    record {
      told = e.told ∙ i.told;
      captures = (c.next.auto.sources ∙ i.lengths.0, e.length ∙ i.lengths.1);
      headers = e.headers ∙ i.headers;
      at_most = i.at_most;
      full = λ is. absurd (cc);
      goes_on = λ is. absurd (cc);
      counted = λ count passed. passes_fewer _ _ _ (omega arith) (e.counted (count + length c.loop-merge.records.items) (i.counted count passed));
      says = λ told.
          let mid : AllTold (map g.R.Source.told c.loop-merge.sources) = rw i.told told in
          (gives_no_more _ _ _ _ _ _ _ (i.on told) (rw c.in-Ok-None.field-0-is at (e.reads mid)), rw c.in-Ok-None.field-0-is at e.end, c.tail.ensures);
      failures = e.ok ∙ i.failures;
    }

pub returns-in-Err : goal.returns-in-Err
returns-in-Err g c =
    let i = c.loop-merge.invariant in
    let e = c.in-Err.ensures in
    let olds = length-map c.loop-merge.sources g.R.Source.failures in
    let news = length-map c.next.new.sources g.R.Source.failures in
    let same = c.next.auto.sources in
    let fails = reading_fails c.next.new.self _ _ c.in-Err.refusal.0 c.in-Err.refusal.1 e.refused (olds ∙ i.lengths.0 ∙ c.requires.captures.0 ∙ sym i.lengths.1 ∙ sym e.length) (news ∙ same ∙ sym olds) (e.failed i.reading) in
    let sources_long = length-map c.next.new.sources g.R.Source.unread ∙ same ∙ i.lengths.0 ∙ sym (length-map c.args.sources.now g.R.Source.unread) in
    record {
      told = e.told ∙ i.told;
      captures = (same ∙ i.lengths.0, e.length ∙ i.lengths.1);
      headers = e.headers ∙ i.headers;
      at_most = i.at_most;
      full = λ is. absurd (cc);
      goes_on = λ is. absurd (cc);
      counted = λ count passed. passes_fewer _ _ _ (omega arith) (e.counted (count + length c.loop-merge.records.items) (i.counted count passed));
      says = λ told.
          let mid : AllTold (map g.R.Source.told c.loop-merge.sources) = rw i.told told in
          batch_refused _ _ _ _ _ _ _ _ _ c.in-Err.refusal.0 c.in-Err.refusal.1 (i.on told) (e.reads mid) e.refused (e.lacks i.reading) sources_long fails;
      failures = subst (λ (counts : List ℕ). ReadingFails counts (map g.R.Source.failures c.next.new.sources) c.in-Err.refusal) i.failures fails;
    }

pub returns : goal.returns
returns g c =
    let i = c.loop-merge.invariant in
    let most = i.at_most in
    record {
      told = i.told;
      captures = i.lengths;
      headers = i.headers;
      at_most = most;
      full = λ is. omega (arith, most);
      goes_on = λ is. i.reading;
      counted = i.counted;
      says = i.on;
      failures = i.failures;
    }
