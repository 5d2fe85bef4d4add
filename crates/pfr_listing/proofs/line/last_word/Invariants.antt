use Rattle.std.proofs.Common.{◌≤◌, length}
use Rattle.pfr_listing.proofs.line.last_word.Given as goal

abbrev pub invariant-loop-place : goal.invariant-loop-place
invariant-loop-place l = l.last ≤ length l.line
