use Rattle.std.proofs.Common.{◌≡◌, ◌++◌, drop}
use Rattle.pfr_phrases.specs.Applying as spec
use Rattle.pfr_phrases.proofs.applying.NewText.put_text.Given as goal

abbrev pub invariant-loop-byte : goal.invariant-loop-byte
invariant-loop-byte l = (l.self.text ≡ l.fn.self.text ++ l.bytes) × (l.self.lines ++ spec.same_lines l.line (drop l.byte-index l.bytes) ≡ l.fn.self.lines ++ spec.same_lines l.line l.bytes)
