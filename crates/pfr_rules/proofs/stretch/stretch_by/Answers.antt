use Rattle.std.proofs.Common.{arith}
use Rattle.std.proofs.lemmas.List.{length-map}
use Rattle.pfr_ruleset.specs.Criteria.{asked_by}
use Rattle.pfr_rules.specs.Filter.{ruled}
use Rattle.pfr_rules.proofs.AskedLemmas.{is_asked, followed_in_on, none_joined}
use Rattle.pfr_rules.proofs.stretch.stretch_by.Goals as goal

pub returns-then-to-end-clause-fails : goal.returns-then-to-end-clause-fails
returns-then-to-end-clause-fails c =
    let asked = is_asked c.args.flat.now c.args.name.now c.args.packet.now c.args.direction c.args.aids.now.index c.loop-from.from c.next_asked-to.result c.loop-from.trail c.next_asked-to.new.trail (length-map c.args.flat.now.filter.rules asked_by) (omega (arith, c.loop-from.invariant.within, c.requires.end)) c.requires.aids.index c.loop-from.invariant.followed c.next_asked-to.ensures in
    λ q high low. none_joined (ruled c.args.flat.now c.args.name.now c.args.packet.now c.args.direction) c.args.flat.now.filter.rules c.args.place c.loop-from.from c.next_asked-to.result c.loop-from.invariant.fails asked.fails q high (omega (arith, low, c.if-to-end.true))

pub returns-then-to-end-clause-followed : goal.returns-then-to-end-clause-followed
returns-then-to-end-clause-followed c =
    let asked = is_asked c.args.flat.now c.args.name.now c.args.packet.now c.args.direction c.args.aids.now.index c.loop-from.from c.next_asked-to.result c.loop-from.trail c.next_asked-to.new.trail (length-map c.args.flat.now.filter.rules asked_by) (omega (arith, c.loop-from.invariant.within, c.requires.end)) c.requires.aids.index c.loop-from.invariant.followed c.next_asked-to.ensures in
    followed_in_on c.args.aids.now.index c.args.packet.now c.loop-from.from c.args.end c.next_asked-to.new.trail c.loop-from.invariant.within asked.followed

pub returns-in-None-clause-fails : goal.returns-in-None-clause-fails
returns-in-None-clause-fails c =
    let asked = is_asked c.args.flat.now c.args.name.now c.args.packet.now c.args.direction c.args.aids.now.index c.loop-from.from c.next_asked-to.result c.loop-from.trail c.next_asked-to.new.trail (length-map c.args.flat.now.filter.rules asked_by) (omega (arith, c.loop-from.invariant.within, c.requires.end)) c.requires.aids.index c.loop-from.invariant.followed c.next_asked-to.ensures in
    none_joined (ruled c.args.flat.now c.args.name.now c.args.packet.now c.args.direction) c.args.flat.now.filter.rules c.args.place c.loop-from.from c.next_asked-to.result c.loop-from.invariant.fails asked.fails

pub returns-in-None-clause-followed : goal.returns-in-None-clause-followed
returns-in-None-clause-followed c =
    let asked = is_asked c.args.flat.now c.args.name.now c.args.packet.now c.args.direction c.args.aids.now.index c.loop-from.from c.next_asked-to.result c.loop-from.trail c.next_asked-to.new.trail (length-map c.args.flat.now.filter.rules asked_by) (omega (arith, c.loop-from.invariant.within, c.requires.end)) c.requires.aids.index c.loop-from.invariant.followed c.next_asked-to.ensures in
    followed_in_on c.args.aids.now.index c.args.packet.now c.loop-from.from c.next_asked-to.result c.next_asked-to.new.trail asked.ahead asked.followed

pub loop-from-preserved : goal.loop-from-preserved
loop-from-preserved c =
    let asked = is_asked c.args.flat.now c.args.name.now c.args.packet.now c.args.direction c.args.aids.now.index c.loop-from.from c.next_asked-to.result c.loop-from.trail c.next_asked-to.new.trail (length-map c.args.flat.now.filter.rules asked_by) (omega (arith, c.loop-from.invariant.within, c.requires.end)) c.requires.aids.index c.loop-from.invariant.followed c.next_asked-to.ensures in
    let behind = c.in-Some.ensures.fails in
    let test = ruled c.args.flat.now c.args.name.now c.args.packet.now c.args.direction in
    let rules = c.args.flat.now.filter.rules in
    let first = none_joined test rules c.args.place c.loop-from.from c.next_asked-to.result c.loop-from.invariant.fails asked.fails in
    let both = none_joined test rules c.args.place c.next_asked-to.result c.in-Some.next first behind.fails in
    record {
      from = omega (arith, c.loop-from.invariant.from, c.requires.from, asked.ahead, behind.ahead, c.min-from.ensures);
      within = omega (arith, c.min-from.ensures);
      fails = λ q high low. both q high (omega (arith, low, c.min-from.ensures));
      followed = followed_in_on c.args.aids.now.index c.args.packet.now c.loop-from.from c.min-from.result c.next_asked-to.new.trail (omega (arith, asked.ahead, behind.ahead, c.loop-from.invariant.within, c.min-from.ensures)) asked.followed;
    }
