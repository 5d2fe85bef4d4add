use Rattle.std.proofs.Common.{[], sym, subst}
use Rattle.std.specs.List.{IsDistinct}
use Rattle.pfr_criteria.specs.Packets.{is_named}
use Rattle.pfr_notices.proofs.NamedLemmas.{in_order}
use Rattle.pfr_notices.proofs.named.named_interfaces.Goals as goal

pub returns-clause-order : goal.returns-clause-order
returns-clause-order c =
    in_order c.args.rules.now _ _ _ _ _ _ _ _ _ _ _ c.new-names.ensures.items c.rules.ensures c.anchors.ensures.value c.as_slice.ensures
    c.as_slice-2.ensures c.as_slice-3.ensures c.in_ok-add_all.ensures.order c.in_ok-add_all-2.ensures.order c.in_ok-add_all-3.ensures.order
    c.in_ok-add_all-4.ensures.order c.in_ok-add_all-5.ensures.order

none_twice : IsDistinct is_named []
unfolding IsDistinct
none_twice = tt

pub returns-clause-once : goal.returns-clause-once
returns-clause-once c =
    let none = subst (IsDistinct is_named) (sym c.new-names.ensures.items) none_twice in
    c.in_ok-add_all-5.ensures.once (c.in_ok-add_all-4.ensures.once (c.in_ok-add_all-3.ensures.once (c.in_ok-add_all-2.ensures.once (c.in_ok-add_all.ensures.once none))))
