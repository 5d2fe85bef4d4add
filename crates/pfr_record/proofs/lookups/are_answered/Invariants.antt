use Rattle.std.proofs.Common.{take}
use Rattle.pfr_states.specs.Answers.{purged_at}
use Rattle.pfr_record.specs.Record.{Agrees}
use Rattle.pfr_record.proofs.lookups.are_answered.Given as goal

abbrev pub invariant-loop-index : goal.invariant-loop-index
invariant-loop-index l = Agrees (purged_at l.clock l.table) (take l.index l.answers.entries)
