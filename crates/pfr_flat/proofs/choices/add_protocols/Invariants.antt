use Rattle.std.proofs.Common.{◌≡◌, ◌++◌, flat_map, take}
use Rattle.pfr_flat.specs.Choices as spec
use Rattle.pfr_flat.proofs.choices.add_protocols.Given as goal

abbrev pub invariant-loop-protocol : goal.invariant-loop-protocol
invariant-loop-protocol l = l.out ≡ l.fn.out ++ flat_map (λ x. spec.by_icmp l.choices (record l.chosen { protocol = x })) (take l.protocol-index l.protocol-items)
