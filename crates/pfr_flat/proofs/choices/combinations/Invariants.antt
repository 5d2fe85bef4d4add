use Rattle.std.proofs.Common.{◌≡◌, flat_map, take}
use Rattle.pfr_flat.specs.Choices as spec
use Rattle.pfr_flat.proofs.choices.combinations.Given as goal

abbrev pub invariant-loop-interface : goal.invariant-loop-interface
invariant-loop-interface l = l.out ≡ flat_map (λ x. spec.by_protocol l.choices (record spec.no_match { interface = x })) (take l.interface-index l.interface-items)
