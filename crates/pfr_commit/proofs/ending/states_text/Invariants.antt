use Rattle.pfr_commit.proofs.EndingLemmas.{IsWritten}
use Rattle.pfr_commit.proofs.ending.states_text.Given as goal

abbrev pub invariant-loop-turn : goal.invariant-loop-turn
invariant-loop-turn l = IsWritten l.interfaces l.table.states l._turn l.next l.text.items
