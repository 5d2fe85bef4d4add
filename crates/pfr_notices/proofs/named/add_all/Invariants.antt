use Rattle.std.proofs.Common.{◌≡◌, ◌||◌, drop}
use Rattle.std.specs.List.{IsDistinct}
use Rattle.pfr_net.specs.declared.interface.IfName.{IfName}
use Rattle.pfr_criteria.specs.Packets.{is_named}
use Rattle.pfr_notices.specs.Named.{asked_by, each_once, is_among, one_asks_for}
use Rattle.pfr_notices.proofs.named.add_all.Given as goal

abbrev pub invariant-loop-rule : goal.invariant-loop-rule
invariant-loop-rule g l =
    (each_once l.names.items (asked_by g.T.Asks.criterion (drop l.rule-index l.rules)) ≡ each_once l.initial.names.items (asked_by g.T.Asks.criterion l.rules))
    × ((name : IfName) → (is_among l.names.items name || one_asks_for g.T.Asks.criterion name (drop l.rule-index l.rules)) ≡ (is_among l.initial.names.items name || one_asks_for g.T.Asks.criterion name l.rules))
    × (IsDistinct is_named l.initial.names.items → IsDistinct is_named l.names.items)
