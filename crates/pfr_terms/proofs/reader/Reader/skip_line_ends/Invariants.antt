use Rattle.std.proofs.Common.{◌≡◌, length}
use Rattle.pfr_terms.specs.Input as spec
use Rattle.pfr_terms.proofs.reader.Reader.skip_line_ends.Given as goal

abbrev pub invariant-loop-self : goal.invariant-loop-self
invariant-loop-self l =
    (spec.words_behind_line_ends l.self-inside.words.now ≡ spec.words_behind_line_ends l.fn.self.words)
    × (l.self-inside.line ≡ l.fn.self.line) × (l.self-inside.in_list ≡ l.fn.self.in_list)
    × (l.self-inside.gathers ≡ l.fn.self.gathers) × (l.self-inside.gathered ≡ l.fn.self.gathered)

abbrev pub decreases-loop-self : goal.decreases-loop-self
decreases-loop-self l = length l.self-inside.words.now
