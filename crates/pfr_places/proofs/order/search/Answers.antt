use Rattle.std.proofs.Common.{ap, arith, rules, sym, ◌∙◌}
use Rattle.std.proofs.lemmas.List.Sorted.{IsPartitionPoint-from_clause}
use Rattle.pfr_places.specs.declared.order.Ordered.{Ordered}
use Rattle.pfr_places.specs.Standing.{is_below}
use Rattle.pfr_places.proofs.OrderLemmas.{parted, rank_for, rank_of}
use Rattle.pfr_places.proofs.order.search.Goals as goal

pub returns-then-entry-number-clause-found : goal.returns-then-entry-number-clause-found
returns-then-entry-number-clause-found c =
    let point = IsPartitionPoint-from_clause (is_below c.args.number) _ _ c.partition_point-at.ensures.partitioned (parted c.args.order.now c.args.number c.requires) (λ a r q k. search rules) in
    let lookup = c.in-Some.ensures.lookup in
    rank_of c.args.order.now c.args.number c.partition_point-at.result c.requires lookup.3.0 point (λ d. sym (ap (λ (entry : Ordered). entry.number) (lookup.3.1 d)) ∙ c.if-entry-number.true)

pub returns-else-entry-number-clause-absent : goal.returns-else-entry-number-clause-absent
returns-else-entry-number-clause-absent c =
    let point = IsPartitionPoint-from_clause (is_below c.args.number) _ _ c.partition_point-at.ensures.partitioned (parted c.args.order.now c.args.number c.requires) (λ a r q k. search rules) in
    let lookup = c.in-Some.ensures.lookup in
    rank_for c.args.order.now c.args.number c.partition_point-at.result c.requires c.partition_point-at.ensures.bound point
    (λ d inside same. c.if-entry-number.false (ap (λ (entry : Ordered). entry.number) (lookup.3.1 d) ∙ same))

pub returns-in-None-clause-absent : goal.returns-in-None-clause-absent
returns-in-None-clause-absent c =
    let point = IsPartitionPoint-from_clause (is_below c.args.number) _ _ c.partition_point-at.ensures.partitioned (parted c.args.order.now c.args.number c.requires) (λ a r q k. search rules) in
    let beyond = c.in-None.ensures.lookup.3 in
    rank_for c.args.order.now c.args.number c.partition_point-at.result c.requires c.partition_point-at.ensures.bound point (λ d inside same. absurd (omega (arith, beyond, inside)))
