use Rattle.std.proofs.Common.{◌∙◌, List, ap, arith, sym}
use Rattle.pfr_track.specs.declared.state.State.{State}
use Rattle.pfr_states.specs.States.{count_of_rule, has_rule_room}
use Rattle.pfr_states.proofs.RuleLemmas.{few_have_room, none_leaves_room, one_leaves_room}
use Rattle.pfr_states.proofs.indexed.IndexedStates.rule_room.Goals as goal

pub returns-then-count-most : goal.returns-then-count-most
unfolding has_rule_room
returns-then-count-most c =
    let counted = c.count_of_rule-count.ensures ∙ ap (λ (xs : List State). count_of_rule c.args.rule.0 xs) c.self.view_is in
    let few = c.if-count-most.true in
    few_have_room c.args.rule.0 c.args.clock c.args.self.now c.args.most (omega (arith, counted, few))

pub returns-then-not-is_rule_due : goal.returns-then-not-is_rule_due
unfolding has_rule_room
returns-then-not-is_rule_due c =
    let counted = c.count_of_rule-count.ensures ∙ ap (λ (xs : List State). count_of_rule c.args.rule.0 xs) c.self.view_is in
    let full = c.if-count-most.false in
    none_leaves_room c.args.rule.0 c.args.clock c.args.self.now c.args.most (omega (arith, counted, full)) (sym c.is_rule_due.ensures ∙ c.if-not-is_rule_due.true)

pub returns-then-count-most-2 : goal.returns-then-count-most-2
unfolding has_rule_room
returns-then-count-most-2 c =
    let counted = c.count_of_rule-count.ensures ∙ ap (λ (xs : List State). count_of_rule c.args.rule.0 xs) c.self.view_is in
    let level = c.if-count-most-2.true in
    one_leaves_room c.args.rule.0 c.args.clock c.args.self.now c.args.most (omega (arith, counted, level)) (sym c.is_rule_due.ensures ∙ c.if-not-is_rule_due.false)
