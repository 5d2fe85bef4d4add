use Rattle.std.proofs.Common.{◌∙◌, ◌++◌, ap, map, take}
use Rattle.pfr_ruleset.specs.TranslationAids.{number_of}
use Rattle.pfr_rules.specs.Searching.{held}
use Rattle.pfr_rules.specs.Translating.{numbered}
use Rattle.pfr_rules.proofs.SearchLemmas.{found_at, asked_to}
use Rattle.pfr_rules.proofs.searching.first_in.Goals as goal

pub returns-clause-found : goal.returns-clause-found
returns-clause-found g c =
    let first = c.first_place-place.ensures in
    c.rule_at.ensures ∙ found_at (held c.args.flat.now c.args.name.now c.args.packet.now) c.args.rules.now c.first_place-place.result first.within first.none first.holds

pub returns-clause-visits : goal.returns-clause-visits
returns-clause-visits g c =
    let first = c.first_place-place.ensures in
    c.in_ok-visit.ensures
    ∙ ap (λ visits. visits ++ take c.asked_up_to-upto.result (map number_of c.args.rules.now)) first.visits
    ∙ ap (λ numbers. c.args.visits.now ++ numbers) (asked_to (held c.args.flat.now c.args.name.now c.args.packet.now) numbered c.args.rules.now c.first_place-place.result c.asked_up_to-upto.result c.asked_up_to-upto.ensures first.within first.none first.holds)
