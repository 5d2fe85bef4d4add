use Rattle.std.proofs.Common.{◌++◌}
use Rattle.std.specs.Str.Chunks.{utf8_chunks_rest}
use Rattle.pfr_report.proofs.EscapeLemmas.{StandsFor}
use Rattle.pfr_report.specs.Escapes.{shown}
use Rattle.pfr_report.proofs.escape.append_text.Given as goal

abbrev pub invariant-loop-chunk : goal.invariant-loop-chunk
invariant-loop-chunk l = StandsFor l.text.items (utf8_chunks_rest l.chunk-iterator) (l.fn.text.items ++ shown l.fn.bytes)
