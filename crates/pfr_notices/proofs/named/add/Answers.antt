use Rattle.std.proofs.Common.{◌≡◌, false, rules, sym, subst}
use Rattle.std.specs.List.{IsDistinct}
use Rattle.pfr_criteria.specs.Packets.{is_named}
use Rattle.pfr_notices.specs.Named.{is_among}
use Rattle.pfr_notices.proofs.NamedLemmas.{distinct_behind}
use Rattle.pfr_notices.proofs.named.add.Goals as goal

pub returns-clause-once : goal.returns-clause-once
returns-clause-once c distinct =
    let is_new : is_among c.args.names.now.items c.in-Some.criterion.name ≡ false = Prim.search rules in
    subst (IsDistinct is_named) (sym c.in_ok-push.ensures.items) (distinct_behind c.args.names.now.items c.in-Some.criterion.name distinct is_new)
