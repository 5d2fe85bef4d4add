use Rattle.std.proofs.Common.{◌≡◌, ◌++◌, flat_map, take}
use Rattle.pfr_flat.specs.Choices as spec
use Rattle.pfr_flat.proofs.choices.add_destinations.Given as goal

abbrev pub invariant-loop-destination : goal.invariant-loop-destination
invariant-loop-destination l = l.out ≡ l.fn.out ++ flat_map (λ x. spec.by_destination_port l.choices (record l.chosen { destination = x })) (take l.destination-index l.destination-items)
