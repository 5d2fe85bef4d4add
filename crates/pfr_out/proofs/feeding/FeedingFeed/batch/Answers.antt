use Rattle.std.proofs.Common.{◌≡◌, ◌∙◌, ◌&&◌, Bool, None, length, refl, sym, ap, arith}
use Rattle.std.proofs.lemmas.Bool.{eqb-true}
use Rattle.std.proofs.lemmas.List.{nil_from_length}
use Rattle.pfr_merge.proofs.CountLemmas.{passed_few, passes_fewer}
use Rattle.pfr_out.specs.Outputs.{all_told}
use Rattle.pfr_out.proofs.FeedingLemmas.{ended_empty, none_of, not_none, wanted_nothing}
use Rattle.pfr_out.proofs.RunLemmas.{wanted_gave}
use Rattle.pfr_out.proofs.WritingLemmas.{list_told_alike}
use Rattle.pfr_out.proofs.feeding.FeedingFeed.batch.Goals as goal

pub returns-then-is_empty-clause-none : goal.returns-then-is_empty-clause-none
returns-then-is_empty-clause-none g c =
    let r = c.read_batch-self.ensures in
    let zero = eqb-true _ _ (sym c.is_empty.ensures ∙ c.if-is_empty.true) in
    let held = c.read_batch-self.new.records.ok.0 in
    let none : length c.read_batch-self.new.records.items ≡ 0 = omega arith in
    let empty = nil_from_length c.read_batch-self.new.records.items none in
    let least = c.args.self.now.batch.0 in
    let some : c.read_batch-self.result ≡ None → ⊥ = λ is. (let full = r.full is in omega arith) in
    ended_empty g.R.Source.told g.R.Source.unread g.R.Source.failures c.args.self.now _ some (record {
      going = none_of c.args.self.now.end (sym c.is_some.ensures ∙ c.if-is_some.false);
      says = λ t. rw empty at (r.says t);
      headers = r.headers;
      at_most = omega arith;
      full = λ is. absurd (some is);
      told = r.told;
      failed = r.failures;
      same = record { form = refl; address = refl; most = refl };
      sinks = refl;
      given = omega arith;
      committed = refl;
      cut = refl;
    })

pub returns-then-wants_memory-clause-none : goal.returns-then-wants_memory-clause-none
returns-then-wants_memory-clause-none g c =
    let r = c.read_batch-self.ensures in
    let wants = sym c.wants_memory.ensures ∙ c.if-wants_memory.true in
    let some = not_none c.read_batch-self.result wants in
    ended_empty g.R.Source.told g.R.Source.unread g.R.Source.failures c.args.self.now _ some (record {
      going = none_of c.args.self.now.end (sym c.is_some.ensures ∙ c.if-is_some.false);
      says = λ t. wanted_nothing _ _ _ _ c.read_batch-self.result wants (wanted_gave _ _ _ _ _ c.read_batch-self.result wants (r.says t));
      headers = r.headers;
      at_most = omega arith;
      full = λ is. absurd (some is);
      told = r.told;
      failed = r.failures;
      same = record { form = refl; address = refl; most = refl };
      sinks = refl;
      given = omega arith;
      committed = refl;
      cut = refl;
    })

pub overflow_add-self : goal.overflow_add-self
overflow_add-self g c =
    let it = c.args.self.now in
    let r = c.read_batch-self.ensures in
    let same = r.captures.1 in
    let most = it.captures.1 in
    let few = passed_few c.read_batch-self.new.merge _ (r.counted it.given it.counted.1) (omega (arith, same, most)) in
    let held = c.read_batch-self.new.records.ok.0 in
    let counted = c.len.ensures in
    omega (arith, few, held, counted)

pub invariant_of-self : goal.invariant_of-self
invariant_of-self g c =
    let it = c.args.self.now in
    let r = c.read_batch-self.ensures in
    let same = r.captures.1 in
    let most = it.captures.1 in
    record {
      batch = it.batch;
      captures = (r.captures.0 ∙ it.captures.0 ∙ sym same, omega (arith, same, most));
      reading = r.goes_on;
      counted = (it.counted.0, passes_fewer _ _ _ (omega arith) (r.counted it.given it.counted.1));
    }

pub invariant_of-self-then-wants_memory : goal.invariant_of-self-then-wants_memory
invariant_of-self-then-wants_memory g c =
    let it = c.args.self.now in
    let r = c.read_batch-self.ensures in
    let same = r.captures.1 in
    let most = it.captures.1 in
    record {
      batch = it.batch;
      captures = (r.captures.0 ∙ it.captures.0 ∙ sym same, omega (arith, same, most));
      reading = r.goes_on;
      counted = (it.counted.0, passes_fewer _ _ _ (omega arith) (r.counted it.given it.counted.1));
    }

pub invariant_of-self-2 : goal.invariant_of-self-2
invariant_of-self-2 g c =
    let it = c.args.self.now in
    let r = c.read_batch-self.ensures in
    let same = r.captures.1 in
    let most = it.captures.1 in
    let held = c.read_batch-self.new.records.ok.0 in
    let counted = c.len.ensures in
    let less = it.counted.0 in
    record {
      batch = it.batch;
      captures = (r.captures.0 ∙ it.captures.0 ∙ sym same, omega (arith, same, most));
      reading = r.goes_on;
      counted = (omega (arith, less), passes_fewer _ _ _ (omega (arith, held, counted)) (r.counted it.given it.counted.1));
    }

pub returns-then-is_empty-clause-told : goal.returns-then-is_empty-clause-told
returns-then-is_empty-clause-told g c =
    ap (λ (t : Bool). t && all_told g.S.Sink.told c.args.self.now.sinks.now) (list_told_alike g.R.Source.told c.args.self.now.sources.now c.read_batch-self.new.self c.read_batch-self.ensures.told)

pub returns-then-wants_memory-clause-told : goal.returns-then-wants_memory-clause-told
returns-then-wants_memory-clause-told g c =
    ap (λ (t : Bool). t && all_told g.S.Sink.told c.args.self.now.sinks.now) (list_told_alike g.R.Source.told c.args.self.now.sources.now c.read_batch-self.new.self c.read_batch-self.ensures.told)

pub returns-clause-few : goal.returns-clause-few
returns-clause-few g c =
    let it = c.args.self.now in
    let r = c.read_batch-self.ensures in
    let same = r.captures.1 in
    let most = it.captures.1 in
    let few = passed_few c.read_batch-self.new.merge _ (r.counted it.given it.counted.1) (omega (arith, same, most)) in
    let held = c.read_batch-self.new.records.ok.0 in
    let counted = c.len.ensures in
    omega (arith, few, held, counted)

pub returns-clause-told : goal.returns-clause-told
returns-clause-told g c =
    ap (λ (t : Bool). t && all_told g.S.Sink.told c.args.self.now.sinks.now) (list_told_alike g.R.Source.told c.args.self.now.sources.now c.read_batch-self.new.self c.read_batch-self.ensures.told)
