use Rattle.std.proofs.Common.{◌≡◌, drop}
use Rattle.pfr_elements.specs.Values as spec
use Rattle.pfr_elements.proofs.text.has_comment.Given as goal

abbrev pub invariant-loop-byte : goal.invariant-loop-byte
invariant-loop-byte l = spec.has_comment (drop l.byte-index l.text) ≡ spec.has_comment l.text
