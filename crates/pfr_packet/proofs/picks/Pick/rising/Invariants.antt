use Rattle.std.proofs.Common.{◌≡◌, ◌-◌, ◌++◌, ℕ, List, Option}
use Rattle.pfr_track.specs.declared.key.Key.{Key}
use Rattle.pfr_states.specs.declared.question.Question.{Question}
use Rattle.pfr_packet.specs.Picks.{key_with, picking, rising}
use Rattle.pfr_packet.specs.Plan.{GoesUpTo, Plan}
use Rattle.pfr_packet.proofs.picks.Pick.rising.Given as goal

abbrev pub invariant-loop-port : goal.invariant-loop-port
invariant-loop-port g l = record {
  seen : g.A.RuleRoom.seen l.answers ≡ g.A.RuleRoom.seen l.fn.answers;
  goes : (next : Option Key → Plan) (rest : List ℕ) → GoesUpTo (g.A.RuleRoom.seen l.fn.answers) (picking (key_with l.self) next (rising l.first (l.end - l.first) ++ rest)) (picking (key_with l.self) next (rising l.port (l.end - l.port) ++ rest)) (g.A.RuleRoom.asked l.answers);
  kept : (question : Question) → g.A.RuleRoom.asked l.fn.answers question → g.A.RuleRoom.asked l.answers question;
}
