use Rattle.std.proofs.Common.{◌≡◌, ◌∙◌, ◌+◌, ◌++◌, length, map, ap, arith}
use Rattle.pfr_ruleset.proofs.Joining.{joined_placed, openings_join}
use Rattle.pfr_ruleset.specs.Places.{moved, own_openings, AreOpened}
use Rattle.pfr_ruleset.proofs.filter_rules.FilterRules.joined.Goals as goal

pub open_anchors-requires-clause-fits : goal.open_anchors-requires-clause-fits
open_anchors-requires-clause-fits c =
    let has = c.self.invariant.1.size in
    let place = c.len-place.ensures in
    let size = c.in_ok-put_openings.ensures.size in
    omega (arith, has, place, size)

pub invariant_of-result : goal.invariant_of-result
invariant_of-result c =
    let rules = c.self.inside.rules in
    let anchors = c.self.inside.anchors in
    let old = c.self.inside.openings.items in
    let more = c.args.rules.now in
    let others = map (moved (length rules)) c.args.anchors.now in
    let new = c.open_anchors.new.openings.items in
    let has = c.self.invariant.1 in
    let place : c.len-place.result ≡ length rules = c.len-place.ensures in
    let made : c.put_openings.new.openings.items ≡ old ++ own_openings (length rules) more = c.in_ok-put_openings.ensures.made ∙ ap (λ n. old ++ own_openings n more) has.size in
    let opened : AreOpened (old ++ own_openings (length rules) more) others new = rw (← made, ← place) c.open_anchors.ensures.each in
    let size : length new ≡ length rules + length more = c.open_anchors.ensures.size ∙ c.in_ok-put_openings.ensures.size ∙ ap (λ n. n + length more) has.size in
    let all : c.extend_from_slice.new.self ≡ rules ++ more = c.in_ok-extend_from_slice.ensures in
    let round : c.put_anchors.new.out ≡ anchors ++ others = c.in_ok-put_anchors.ensures ∙ ap (λ n. anchors ++ map (moved n) c.args.anchors.now) place in
    rw (all, round) (joined_placed rules more anchors c.args.anchors.now c.self.invariant.0 c.requires, openings_join rules more anchors others old new c.self.invariant.0 has size opened, λ aids is. absurd (cc (is)))
