use Rattle.std.specs.Arc.{arc_value}
use Rattle.pfr_record.proofs.SoundLemmas.{sound}
use Rattle.pfr_record.proofs.speculating.speculate.Goals as goal

pub invariant_of-result : goal.invariant_of-result
invariant_of-result c = record {
  sound = sound _ (arc_value c.in_ok-job.job) c.args.number c.args.clock c.args.place c.args.view c.in_ok-outcome.outcome c.step.new.answers.answers
      (rw c.in_ok-job.ensures (rw c.in_ok-outcome.ensures.seen (rw c.deref.ensures at c.in_ok-outcome.ensures.goes))) c.step.new.answers.agrees;
}
