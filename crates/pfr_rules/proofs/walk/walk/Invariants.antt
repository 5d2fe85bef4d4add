use Rattle.std.proofs.Common.{◌≡◌, ◌+◌, ◌-◌, length}
use Rattle.std.specs.List.{All, flat_map}
use Rattle.std.specs.Option.{option_copied}
use Rattle.pfr_states.specs.declared.question.Question.{Question}
use Rattle.pfr_rules.specs.Candidates.{IsFollowingBy}
use Rattle.pfr_rules.specs.Filter.{anchored, asked_at, matched, rooms_in}
use Rattle.pfr_rules.proofs.Walking.{So}
use Rattle.pfr_rules.proofs.walk.walk.Given as goal

abbrev pub invariant-loop-place : goal.invariant-loop-place
invariant-loop-place g l = record {
  so : So (anchored l.flat l.name l.packet l.direction) (matched l.flat (rooms_in (g.R.RuleRoom.seen l.fn.rooms)) l.name l.packet l.direction) l.flat.filter l.place l.next l.decided l.visits;
  followed : IsFollowingBy (option_copied l.aids) l.packet l.place l.trail;
  seen : g.R.RuleRoom.seen l.rooms ≡ g.R.RuleRoom.seen l.fn.rooms;
  asked : All (g.R.RuleRoom.asked l.rooms) (flat_map (asked_at l.flat l.name l.packet l.direction) l.visits);
  kept : (question : Question) → g.R.RuleRoom.asked l.fn.rooms question → g.R.RuleRoom.asked l.rooms question;
}

abbrev pub decreases-loop-place : goal.decreases-loop-place
decreases-loop-place g l = (length l.rules - l.place) + (length l.anchors - l.next)
