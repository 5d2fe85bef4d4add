use Rattle.std.proofs.Common.{◌≡◌, map, take}
use Rattle.pfr_asked.specs.Seen.{unseen}
use Rattle.pfr_asked.proofs.seen.none_seen.Given as goal

abbrev pub invariant-loop-interface : goal.invariant-loop-interface
invariant-loop-interface l = l.seen.items ≡ map unseen (take l.interface-index l.interfaces)
