use Rattle.pfr_packet.specs.Plan.{Goes}
use Rattle.pfr_packet.specs.Steps.{opened_plan}
use Rattle.pfr_packet.proofs.GoingLemmas.{going_goes}
use Rattle.pfr_packet.proofs.PickLemmas.{done_then}
use Rattle.pfr_packet.proofs.evaluation.Arrival.go.Goals as goal

pub returns-clause-goes : goal.returns-clause-goes
returns-clause-goes g c =
    let arrival = c.args.self.now in
    let outcome = c.open.new.outcome in
    done_then (λ (goes : Goes (g.A.RuleRoom.seen c.judge.new.answers) (opened_plan arrival c.args.passage.now c.judge.new.outcome c.in_ok-kept.kept) outcome (g.A.RuleRoom.asked c.open.new.answers)).
    going_goes arrival (g.A.RuleRoom.seen c.args.answers.now) c.args.visits c.args.passage.now outcome (g.A.RuleRoom.asked c.judge.new.answers) (g.A.RuleRoom.asked c.open.new.answers)
    c.in_ok-kept.ensures.asked c.open.ensures.kept (rw (c.in_ok-kept.ensures.seen, c.in_ok-kept.ensures.outcome, c.in_ok-kept.ensures.rules) at goes)) c.open.result c.open.ensures.goes
