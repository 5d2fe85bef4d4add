use Rattle.std.proofs.Common.{◌≡◌, ◌++◌, map, take}
use Rattle.pfr_flat.proofs.choices.add_destination_ports.Given as goal

abbrev pub invariant-loop-port : goal.invariant-loop-port
invariant-loop-port l = l.out ≡ l.fn.out ++ map (λ x. record l.chosen { destination_port = x }) (take l.port-index l.port-items)
