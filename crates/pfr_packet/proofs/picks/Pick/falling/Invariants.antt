use Rattle.std.proofs.Common.{◌≡◌, ◌≤◌, ◌-◌, ◌++◌, ℕ, List, Option}
use Rattle.pfr_track.specs.declared.key.Key.{Key}
use Rattle.pfr_states.specs.declared.question.Question.{Question}
use Rattle.pfr_packet.specs.Picks.{falling, key_with, picking}
use Rattle.pfr_packet.specs.Plan.{GoesUpTo, Plan}
use Rattle.pfr_packet.proofs.picks.Pick.falling.Given as goal

abbrev pub invariant-loop-above : goal.invariant-loop-above
invariant-loop-above g l = record {
  within : l.above ≤ 65536;
  seen : g.A.RuleRoom.seen l.answers ≡ g.A.RuleRoom.seen l.fn.answers;
  goes : (next : Option Key → Plan) (rest : List ℕ) → GoesUpTo (g.A.RuleRoom.seen l.fn.answers) (picking (key_with l.self) next (falling l.bound (l.bound - l.low) ++ rest)) (picking (key_with l.self) next (falling l.above (l.above - l.low) ++ rest)) (g.A.RuleRoom.asked l.answers);
  kept : (question : Question) → g.A.RuleRoom.asked l.fn.answers question → g.A.RuleRoom.asked l.answers question;
}

abbrev pub decreases-loop-above : goal.decreases-loop-above
decreases-loop-above g l = l.above - l.low
