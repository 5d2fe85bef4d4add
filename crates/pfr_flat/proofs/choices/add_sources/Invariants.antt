use Rattle.std.proofs.Common.{◌≡◌, ◌++◌, flat_map, take}
use Rattle.pfr_flat.specs.Choices as spec
use Rattle.pfr_flat.proofs.choices.add_sources.Given as goal

abbrev pub invariant-loop-source : goal.invariant-loop-source
invariant-loop-source l = l.out ≡ l.fn.out ++ flat_map (λ x. spec.by_source_port l.choices (record l.chosen { source = x })) (take l.source-index l.source-items)
