use Rattle.std.proofs.Common.{◌≡◌, ◌++◌, flat_map, take}
use Rattle.pfr_flat.specs.Choices as spec
use Rattle.pfr_flat.proofs.choices.add_source_ports.Given as goal

abbrev pub invariant-loop-port : goal.invariant-loop-port
invariant-loop-port l = l.out ≡ l.fn.out ++ flat_map (λ x. spec.by_destination l.choices (record l.chosen { source_port = x })) (take l.port-index l.port-items)
