use Rattle.std.proofs.Common.{◌∙◌, OnOk, Option, sym, subst}
use Rattle.std.specs.List.{All}
use Rattle.pfr_ruleset.specs.declared.ruleset.Ruleset.{Ruleset}
use Rattle.pfr_headers.specs.declared.packet.Packet.{Packet}
use Rattle.pfr_rules.specs.Filter.{rooms_asked, rooms_in}
use Rattle.pfr_packet.specs.Passages.{or_packet}
use Rattle.pfr_packet.specs.Steps.{name_of}
use Rattle.pfr_packet.proofs.evaluation.Arrival.filter_behind.Goals as goal

pub returns-in-None-clause-asked : goal.returns-in-None-clause-asked
returns-in-None-clause-asked g c =
    let arrival = c.args.self.now in
    let rooms = rooms_in (g.A.RuleRoom.seen c.args.answers.now) in
    let asked = g.A.RuleRoom.asked c.filter_into.new.rooms in
    let by_rules = subst (λ (rules : Ruleset). OnOk c.filter_into.result (All asked (rooms_asked rules rooms (name_of arrival) arrival.packet.now arrival.direction))) c.rules-rules.ensures (rw c.name_in-name.ensures at c.filter_into.ensures.asked) in
    subst (λ (found : Option Packet). OnOk c.filter_into.result (All asked (rooms_asked arrival.job.now.rules rooms (name_of arrival) (or_packet arrival.packet.now found) arrival.direction))) (sym c.in-None.is ∙ c.translated.ensures) by_rules

pub returns-in-Some-clause-asked : goal.returns-in-Some-clause-asked
returns-in-Some-clause-asked g c =
    let arrival = c.args.self.now in
    let rooms = rooms_in (g.A.RuleRoom.seen c.args.answers.now) in
    let asked = g.A.RuleRoom.asked c.filter_into-in-Some.new.rooms in
    let by_rules = subst (λ (rules : Ruleset). OnOk c.filter_into-in-Some.result (All asked (rooms_asked rules rooms (name_of arrival) c.in-Some.packet arrival.direction))) c.rules-rules.ensures (rw c.name_in-name.ensures at c.filter_into-in-Some.ensures.asked) in
    subst (λ (found : Option Packet). OnOk c.filter_into-in-Some.result (All asked (rooms_asked arrival.job.now.rules rooms (name_of arrival) (or_packet arrival.packet.now found) arrival.direction))) (sym c.in-Some.is ∙ c.translated.ensures) by_rules
