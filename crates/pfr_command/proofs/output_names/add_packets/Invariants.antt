use Rattle.std.proofs.Common.{◌≡◌, ◌++◌, drop}
use Rattle.pfr_command.specs.Outputs.{packets_names}
use Rattle.pfr_command.proofs.output_names.add_packets.Given as goal

abbrev pub invariant-loop-words : goal.invariant-loop-words
invariant-loop-words l = l.names ++ packets_names (drop l.words-index l.captures) ≡ l.fn.names ++ packets_names l.captures
