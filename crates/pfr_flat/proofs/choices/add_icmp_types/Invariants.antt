use Rattle.std.proofs.Common.{◌≡◌, ◌++◌, flat_map, take}
use Rattle.pfr_flat.specs.Choices as spec
use Rattle.pfr_flat.proofs.choices.add_icmp_types.Given as goal

abbrev pub invariant-loop-icmp : goal.invariant-loop-icmp
invariant-loop-icmp l = l.out ≡ l.fn.out ++ flat_map (λ x. spec.by_source l.choices (record l.chosen { icmp = x })) (take l.icmp-index l.icmp-items)
