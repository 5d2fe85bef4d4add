-- If a run begins at the place, the place is the first beginning from there on.
use Rattle.pfr_chains.proofs.RunLemmas.{begin_here}
use Rattle.pfr_chains.proofs.runs.mark_end.Goals as goal

pub returns-then-begins-place-clause-next : goal.returns-then-begins-place-clause-next
returns-then-begins-place-clause-next c = begin_here c.args.begins.now c.args.place c.requires.place c.if-begins-place.true
