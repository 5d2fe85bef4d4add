use Rattle.std.proofs.Common.{◌≡◌, ◌++◌, drop, map, Some}
use Rattle.pfr_values.specs.Places.{ArePlaces, files_in, files_of, interface_in}
use Rattle.pfr_values.proofs.also.Places.add_all.Given as goal

abbrev pub invariant-loop-word : goal.invariant-loop-word
invariant-loop-word l =
    ArePlaces l.self.interfaces l.self.captures
    × (map (λ i. Some i) l.self.interfaces ++ map (λ word. interface_in l.fn.form word) (map (λ w. w.now) (drop l.word-index l.words))
    ≡ map (λ i. Some i) l.fn.self.interfaces ++ map (λ word. interface_in l.fn.form word) (map (λ w. w.now) l.words))
    × (map (λ c. Some (files_of c)) l.self.captures ++ map (λ word. files_in l.fn.form word) (map (λ w. w.now) (drop l.word-index l.words))
    ≡ map (λ c. Some (files_of c)) l.fn.self.captures ++ map (λ word. files_in l.fn.form word) (map (λ w. w.now) l.words))
