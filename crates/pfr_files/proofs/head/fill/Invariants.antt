use Rattle.std.specs.Io.KnownBytes.{Consumes}
use Rattle.pfr_files.proofs.head.fill.Given as goal

abbrev pub invariant-loop-turn : goal.invariant-loop-turn
invariant-loop-turn g l = Consumes (g.R.Read.remaining l.fn.capture) (g.R.Read.remaining l.capture) l.bytes.items
