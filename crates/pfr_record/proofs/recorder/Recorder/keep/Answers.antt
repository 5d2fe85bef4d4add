use Rattle.pfr_states.specs.Answers.{purged_at}
use Rattle.pfr_record.proofs.recorder.Recorder.keep.Goals as goal

pub invariant_of-self : goal.invariant_of-self
invariant_of-self c = record {
  agrees = c.keep.ensures.keeps.1 (purged_at c.args.self.now.clock c.args.self.now.table.now) c.requires c.args.self.now.agrees;
}

pub returns-clause-kept : goal.returns-clause-kept
returns-clause-kept c = c.keep.ensures.keeps.0
