use Rattle.std.proofs.Common.{◌∙◌, arith}
use Rattle.std.proofs.lemmas.List.{length-map}
use Rattle.pfr_ruleset.specs.Criteria.{asked_by_translation}
use Rattle.pfr_rules.specs.Searching.{held}
use Rattle.pfr_rules.proofs.AskedLemmas.{translation_is_asked, followed_in_on, none_joined}
use Rattle.pfr_rules.proofs.searching.first_by.Goals as goal

pub returns-then-to-end-clause-none : goal.returns-then-to-end-clause-none
returns-then-to-end-clause-none g c =
    let rules = c.args.rules.now in
    let asked = translation_is_asked c.args.flat.now c.args.name.now c.args.packet.now rules c.args.aids.now.index c.loop-from.from c.next_asked-to.result c.loop-from.trail c.next_asked-to.new.trail (length-map rules asked_by_translation) c.loop-from.invariant.within c.requires.aids.index c.loop-from.invariant.followed c.next_asked-to.ensures in
    λ q high low. none_joined (held c.args.flat.now c.args.name.now c.args.packet.now) rules 0 c.loop-from.from c.next_asked-to.result c.loop-from.invariant.fails asked.fails q high (omega (arith, low, c.if-to-end.true))

pub returns-in-None-clause-none : goal.returns-in-None-clause-none
returns-in-None-clause-none g c =
    let rules = c.args.rules.now in
    let asked = translation_is_asked c.args.flat.now c.args.name.now c.args.packet.now rules c.args.aids.now.index c.loop-from.from c.next_asked-to.result c.loop-from.trail c.next_asked-to.new.trail (length-map rules asked_by_translation) c.loop-from.invariant.within c.requires.aids.index c.loop-from.invariant.followed c.next_asked-to.ensures in
    none_joined (held c.args.flat.now c.args.name.now c.args.packet.now) rules 0 c.loop-from.from c.next_asked-to.result c.loop-from.invariant.fails asked.fails

pub loop-from-preserved : goal.loop-from-preserved
loop-from-preserved g c =
    let rules = c.args.rules.now in
    let test = held c.args.flat.now c.args.name.now c.args.packet.now in
    let asked = translation_is_asked c.args.flat.now c.args.name.now c.args.packet.now rules c.args.aids.now.index c.loop-from.from c.next_asked-to.result c.loop-from.trail c.next_asked-to.new.trail (length-map rules asked_by_translation) c.loop-from.invariant.within c.requires.aids.index c.loop-from.invariant.followed c.next_asked-to.ensures in
    let behind = c.in-Some.ensures.fails in
    let first = none_joined test rules 0 c.loop-from.from c.next_asked-to.result c.loop-from.invariant.fails asked.fails in
    record {
      within = behind.within;
      visits = c.ask.ensures ∙ c.loop-from.invariant.visits;
      fails = none_joined test rules 0 c.next_asked-to.result c.in-Some.next first behind.fails;
      followed = followed_in_on c.args.aids.now.index c.args.packet.now c.loop-from.from c.in-Some.next c.next_asked-to.new.trail (omega (arith, asked.ahead, behind.ahead)) asked.followed;
    }
