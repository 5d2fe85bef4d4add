use Rattle.std.proofs.Common.{◌≡◌, ◌+◌, drop, if◌then◌else◌}
use Rattle.pfr_files.specs.Standard.{standard_inputs}
use Rattle.pfr_files.proofs.standard.repeats_input.Given as goal

abbrev pub invariant-loop-words : goal.invariant-loop-words
invariant-loop-words l =
    (if l.is_taken then 1 else 0) + standard_inputs (drop l.words-index l.captures) ≡ standard_inputs l.captures
