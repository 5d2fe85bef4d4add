use Rattle.std.proofs.Common.{◌≡◌, drop, map}
use Rattle.pfr_words.specs.Names as spec
use Rattle.pfr_words.proofs.names.is_among.Given as goal

abbrev pub invariant-loop-known : goal.invariant-loop-known
invariant-loop-known l = spec.is_among (map (λ w. w.now) (drop l.known-index l.words)) l.word ≡ spec.is_among (map (λ w. w.now) l.words) l.word
