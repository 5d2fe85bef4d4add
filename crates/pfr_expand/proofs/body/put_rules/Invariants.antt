use Rattle.std.proofs.Common.{◌≡◌, ◌++◌, map, take}
use Rattle.pfr_expand.proofs.body.put_rules.Given as goal

abbrev pub invariant-loop-packet : goal.invariant-loop-packet
invariant-loop-packet l = l.out ≡ l.fn.out ++ map (λ m. record l.rule { packet = m }) (take l.packet-index l.matches)
