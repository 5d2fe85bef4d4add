use Rattle.std.proofs.Common.{List, subst, ℕ}
use Rattle.pfr_chains.specs.Runs.{AreRunEnds}
use Rattle.pfr_ruleset.specs.TranslationAids.{AreNumberBreaks, AreNumberEnds}
use Rattle.pfr_ruleset.proofs.NumberLemmas.{ends_of_runs}
use Rattle.pfr_ruleset.proofs.translation_aids.number_ends_of.Goals as goal

pub returns : goal.returns
returns g c =
    let numbers = c.in_ok-numbers.numbers.items in
    let breaks : AreNumberBreaks numbers c.in_ok-breaks.breaks.items = subst (λ (numbers : List ℕ). AreNumberBreaks numbers c.in_ok-breaks.breaks.items) c.deref.ensures.value c.in_ok-breaks.ensures in
    let runs : AreRunEnds c.in_ok-breaks.breaks.items c.in_ok-ends.ends.items = subst (λ breaks. AreRunEnds breaks c.in_ok-ends.ends.items) c.deref-2.ensures.value c.in_ok-ends.ensures in
    subst (λ (numbers : List ℕ). AreNumberEnds numbers c.in_ok-ends.ends.items) c.in_ok-numbers.ensures (ends_of_runs numbers c.in_ok-breaks.breaks.items c.in_ok-ends.ends.items breaks runs)
