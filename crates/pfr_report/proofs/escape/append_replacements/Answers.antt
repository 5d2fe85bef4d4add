use Rattle.std.proofs.Common.{arith}
use Rattle.pfr_report.proofs.EscapeLemmas.{replaced_further}
use Rattle.pfr_report.proofs.escape.append_replacements.Goals as goal

pub loop-byte-preserved : goal.loop-byte-preserved
loop-byte-preserved c = replaced_further _ _ _ _ _ (omega arith) c.loop-byte.invariant c.in_ok-extend_from_slice.ensures.items
