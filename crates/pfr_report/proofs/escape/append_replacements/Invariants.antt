use Rattle.std.proofs.Common.{◌≡◌, ◌++◌}
use Rattle.std.specs.List.{repeat}
use Rattle.pfr_report.specs.Escapes.{replacement}
use Rattle.pfr_report.proofs.escape.append_replacements.Given as goal

abbrev pub invariant-loop-byte : goal.invariant-loop-byte
invariant-loop-byte l = l.text.items ≡ l.fn.text.items ++ repeat l._byte-index replacement
