use Rattle.std.proofs.Common.{◌≡◌, ◌++◌}
use Rattle.std.specs.List.{flat_map, range_with_len}
use Rattle.std.specs.String.{string_bytes}
use Rattle.pfr_commit.specs.Endings.{line_at}
use Rattle.pfr_commit.proofs.counters.RuleCounters.put_lines.Given as goal

abbrev pub invariant-loop-number : goal.invariant-loop-number
invariant-loop-number l = string_bytes l.text ≡ string_bytes l.fn.text ++ flat_map (line_at l.kind l.self) (range_with_len 0 l.number)
