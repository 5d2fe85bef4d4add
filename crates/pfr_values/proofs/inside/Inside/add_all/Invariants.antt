use Rattle.std.proofs.Common.{◌≡◌, ◌++◌, drop, map, true, false}
use Rattle.pfr_values.specs.Insides.{NoneTwice, are_networks, those}
use Rattle.pfr_values.proofs.inside.Inside.add_all.Given as goal

abbrev pub invariant-loop-part : goal.invariant-loop-part
invariant-loop-part l =
    NoneTwice l.self
    × (are_networks (map (λ p. p.now) (drop l.part-index l.parts)) ≡ are_networks (map (λ p. p.now) l.parts))
    × (l.self.networks ++ those false (map (λ p. p.now) (drop l.part-index l.parts)) ≡ l.fn.self.networks ++ those false (map (λ p. p.now) l.parts))
    × (l.self.excepted ++ those true (map (λ p. p.now) (drop l.part-index l.parts)) ≡ l.fn.self.excepted ++ those true (map (λ p. p.now) l.parts))
