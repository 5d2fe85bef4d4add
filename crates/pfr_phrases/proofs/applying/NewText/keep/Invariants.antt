use Rattle.std.proofs.Common.{◌≡◌, ◌++◌, drop}
use Rattle.pfr_phrases.specs.Applying as spec
use Rattle.pfr_phrases.proofs.applying.NewText.keep.Given as goal

abbrev pub invariant-loop-byte : goal.invariant-loop-byte
invariant-loop-byte l = (l.self.text ≡ l.fn.self.text ++ l.bytes) × (l.self.lines ++ spec.lines_in l.last (drop l.byte-index l.bytes) ≡ l.fn.self.lines ++ spec.lines_in l.fn.line l.bytes)
