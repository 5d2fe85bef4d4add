use Rattle.std.proofs.Common.{◌∙◌, arith, sym}
use Rattle.pfr_deadlines.proofs.WheelLemmas.{put_done, put_kept}
use Rattle.pfr_deadlines.proofs.wheel.put_at.Goals as goal

pub returns-clause-done : goal.returns-clause-done
returns-clause-done c = λ put. put_done c.args.buckets.now.items c.args.index c.args.wait c.index_mut.result.now c.push.new.self _ (omega arith) c.index_mut.ensures.value c.push.ensures.items (sym c.is_ok.ensures.value ∙ put)

pub returns-clause-kept : goal.returns-clause-kept
returns-clause-kept c = λ kept. put_kept c.args.buckets.now.items c.args.index c.args.wait c.index_mut.result.now c.push.new.self _ (omega arith) c.index_mut.ensures.value c.push.ensures.items (sym c.is_ok.ensures.value ∙ kept)
