use Rattle.std.proofs.Common.{subst}
use Rattle.pfr_chains.specs.Runs.{AreRunEnds}
use Rattle.pfr_ruleset.proofs.IndexLemmas.{open_ends_of_runs}
use Rattle.pfr_ruleset.proofs.aids.open_ends_of.Goals as goal

pub returns : goal.returns
returns c =
    let runs : AreRunEnds c.in_ok-closings.closings.items c.in_ok-open_ends.open_ends.items = subst (λ closings. AreRunEnds closings c.in_ok-open_ends.open_ends.items) c.deref.ensures.value c.in_ok-open_ends.ensures in
    open_ends_of_runs c.args.openings.now c.in_ok-closings.closings.items c.in_ok-open_ends.open_ends.items c.in_ok-closings.ensures runs
