use Rattle.pfr_rules.proofs.CandidateLemmas.{passed_follows}
use Rattle.pfr_rules.proofs.candidates.bring_up.Goals as goal

pub returns-then-from-trail : goal.returns-then-from-trail
returns-then-from-trail c = λ packet followed. (followed, c.if-from-trail.true)

pub returns : goal.returns
returns c = λ packet followed.
    let passed = c.next_pinned-trail.ensures packet followed.chains in
    (passed_follows c.args.index.now packet c.args.from c.next_pinned-trail.result c.next_pinned-trail.new.places passed, passed.ahead)
