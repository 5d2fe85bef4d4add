use Rattle.std.proofs.Common.{◌≡◌, ◌++◌, length, take}
use Rattle.std.specs.List.{flat_map}
use Rattle.pfr_messages.specs.Messages.{header}
use Rattle.pfr_messages.proofs.encoding.put_section.Given as goal

abbrev pub invariant-loop-item : goal.invariant-loop-item
invariant-loop-item g l =
    l.out.items ≡ l.fn.out.items
    ++ (header g.R.Record.kind.action (length l.records)
    ++ flat_map g.R.Record.kind.format.spelling (take l.item-index l.records))
