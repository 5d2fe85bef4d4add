use Rattle.std.proofs.Common.{None}
use Rattle.std.proofs.lemmas.List.Elements.{All-nil}
use Rattle.pfr_packet.specs.Passages.{picked_passage}
use Rattle.pfr_packet.specs.Plan.{Goes}
use Rattle.pfr_packet.specs.Steps.{by_pick, going, going_plan, pick_plan}
use Rattle.pfr_packet.proofs.GoingLemmas.{to_the_end}
use Rattle.pfr_packet.proofs.PickLemmas.{done_then}
use Rattle.pfr_packet.proofs.evaluation.Arrival.by_pick.Goals as goal

-- no port is free
pub returns-in-None-clause-goes : goal.returns-in-None-clause-goes
returns-in-None-clause-goes g c =
    let arrival = c.args.self.now in
    let next = by_pick arrival.job.now arrival.number arrival.clock arrival.place arrival.packet.now arrival.direction c.args.visits c.args.key.now c.args.hit.now in
    to_the_end (g.A.RuleRoom.seen c.args.answers.now) (pick_plan arrival c.args.visits c.args.key.now c.args.hit.now c.args.target.now) (next None) c.exhausted.result (g.A.RuleRoom.asked c.picked.new.answers) (g.A.RuleRoom.asked c.picked.new.answers)
    (rw (c.ports_for-ports.ensures, c.seed.ensures, c.in-None.is) at (c.in_ok-picked.ensures.goes next)) (λ question was. was) (record { outcome_is = c.exhausted.ensures; asked_all = All-nil (g.A.RuleRoom.asked c.picked.new.answers) })

-- one is
pub returns-in-Some-clause-goes : goal.returns-in-Some-clause-goes
returns-in-Some-clause-goes g c =
    let arrival = c.args.self.now in
    let next = by_pick arrival.job.now arrival.number arrival.clock arrival.place arrival.packet.now arrival.direction c.args.visits c.args.key.now c.args.hit.now in
    let outcome = c.go.new.outcome in
    done_then (λ (goes : Goes (g.A.RuleRoom.seen c.picked.new.answers) (going_plan arrival c.args.visits c.picked-in-Some.result) outcome (g.A.RuleRoom.asked c.go.new.answers)).
    to_the_end (g.A.RuleRoom.seen c.args.answers.now) (pick_plan arrival c.args.visits c.args.key.now c.args.hit.now c.args.target.now)
    (going arrival.job.now arrival.number arrival.clock arrival.place arrival.packet.now arrival.direction c.args.visits (picked_passage c.args.key.now c.args.hit.now c.in-Some.wire)) outcome
    (g.A.RuleRoom.asked c.picked.new.answers) (g.A.RuleRoom.asked c.go.new.answers)
    (rw (c.ports_for-ports.ensures, c.seed.ensures, c.in-Some.is) at (c.in_ok-picked.ensures.goes next)) c.go.ensures.kept (rw (c.in_ok-picked.ensures.seen, c.picked-in-Some.ensures) at goes)) c.go.result c.go.ensures.goes
