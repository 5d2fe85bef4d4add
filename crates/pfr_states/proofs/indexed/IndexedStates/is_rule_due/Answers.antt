use Rattle.std.proofs.Common.{◌∙◌}
use Rattle.pfr_states.specs.Awaited.{due_by, is_some_of_rule}
use Rattle.pfr_deadlines.specs.Waits.{come_at}
use Rattle.pfr_states.proofs.AwaitedLemmas.{any_gone_through, rule_is_due}
use Rattle.pfr_states.proofs.indexed.IndexedStates.is_rule_due.Goals as goal

pub returns : goal.returns
returns c =
    let all = c.self.inside.keyed in
    let waits = c.self.inside.deadlines.waits in
    rw (← c.self.view_is) (any_gone_through _ (λ wait. is_some_of_rule c.args.rule.0 (due_by c.args.clock all wait)) (λ before wait after is. is.1) _ _ (come_at c.args.clock waits) c.fold_come.ensures ∙ rule_is_due c.args.rule.0 c.args.clock all waits c.self.invariant c.len.ensures.states.own_places)
