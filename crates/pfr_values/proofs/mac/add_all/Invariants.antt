use Rattle.std.proofs.Common.{◌≡◌, ◌++◌, drop, map, Some}
use Rattle.pfr_values.specs.Macs.{AreMacs, mac_of, shape}
use Rattle.pfr_values.proofs.mac.add_all.Given as goal

abbrev pub invariant-loop-word : goal.invariant-loop-word
invariant-loop-word l =
    AreMacs l.captures l.macs
    × (map (λ mac. Some (shape mac)) l.macs ++ map (λ word. mac_of word) (map (λ w. w.now) (drop l.word-index l.words))
    ≡ map (λ mac. Some (shape mac)) l.fn.macs ++ map (λ word. mac_of word) (map (λ w. w.now) l.words))
