use Rattle.pfr_states.specs.Answers.{purged_at}
use Rattle.pfr_record.proofs.LookupLemmas.{agree_missed, missed_agrees}
use Rattle.pfr_record.proofs.lookups.is_missed.Goals as goal

pub returns-in-Some : goal.returns-in-Some
returns-in-Some c =
    let seen = purged_at c.args.clock c.args.table.now in (
      λ none. agree_missed seen c.args.missed.now (c.in-Some.side, c.in-Some.key, c.in-Some.scope) c.in-Some.is (c.is_none_at.ensures.0 none),
      λ agrees. c.is_none_at.ensures.1 (missed_agrees seen c.args.missed.now (c.in-Some.side, c.in-Some.key, c.in-Some.scope) c.in-Some.is agrees),
    )
