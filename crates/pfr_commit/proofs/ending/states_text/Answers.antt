use Rattle.std.proofs.Common.{◌<◌, length, arith}
use Rattle.pfr_commit.proofs.EndingLemmas.{next_written, one_is_next}
use Rattle.pfr_commit.proofs.ending.states_text.Goals as goal
use Rattle.pfr_commit.proofs.ending.states_text.Goals.{in-Some+in_ok-put, in_default}

pub loop-turn-preserved : goal.loop-turn-preserved
loop-turn-preserved c = elim c.match-next.branch [
  | in-Some+in_ok-put w ↦
      rw (w.text-is, w.next-is, w.after-next.ensures, w.in_ok-put.ensures)
      (next_written c.args.interfaces.now c.args.table.now.states c.loop-turn._turn c.loop-turn.next w.in-Some.state _ c.len-turn-end.ensures.table.in_order c.loop-turn.invariant w.in-Some.is)
  | in_default w ↦
      let count = c.len-turn-end.ensures.count in
      let test = c.loop-turn-test.true in
      let less : c.loop-turn._turn < length c.args.table.now.states = omega arith in
      absurd (one_is_next c.args.interfaces.now c.args.table.now.states c.loop-turn._turn _ less (rw w.in_default.is at c.loop-turn.invariant))
]
