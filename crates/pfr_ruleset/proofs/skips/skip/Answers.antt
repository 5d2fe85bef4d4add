use Rattle.std.proofs.Common.{refl, sym, subst}
use Rattle.pfr_ruleset.specs.Skipping.{GoesOn}
use Rattle.pfr_ruleset.proofs.IndexLemmas.{skip_on, skip_to_next}
use Rattle.pfr_ruleset.proofs.skips.skip.Goals as goal

pub returns-then-goes_on : goal.returns-then-goes_on
returns-then-goes_on c =
    rw (c.at.ensures) (skip_on c.args.criterion c.args.asked.now c.args.place c.args.here.now c.args.behind.now c.requires.here (subst (GoesOn c.args.criterion c.args.here.now) c.rule_at.ensures (c.if-goes_on.ensures.0 refl)) c.requires.behind)

pub returns : goal.returns
returns c =
    skip_to_next c.args.criterion c.args.asked.now c.args.place c.args.here.now c.requires.within c.requires.here (λ goes. absurd (cc (c.if-goes_on.ensures.1 (subst (GoesOn c.args.criterion c.args.here.now) (sym c.rule_at.ensures) goes))))
