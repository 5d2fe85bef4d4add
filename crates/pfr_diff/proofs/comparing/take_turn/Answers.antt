use Rattle.std.proofs.Common.{arith}
use Rattle.pfr_merge.proofs.CountLemmas.{passed_few}
use Rattle.pfr_diff.proofs.comparing.take_turn.Goals as goal

-- the captures have at most 2^43 records
pub take_records-requires-clause-few : goal.take_records-requires-clause-few
take_records-requires-clause-few g c κs lives =
    let same = c.read_batch-end.ensures.captures.1 in
    let few = c.requires.captures.1 in
    passed_few c.read_batch-end.new.merge _ (c.read_batch-end.ensures.counted c.args.both.now.before.book.count c.requires.passed) (omega (arith, same, few))

pub take_records-requires-in-Some-Ok-clause-few : goal.take_records-requires-in-Some-Ok-clause-few
take_records-requires-in-Some-Ok-clause-few g c κs lives =
    let same = c.read_batch-end.ensures.captures.1 in
    let few = c.requires.captures.1 in
    passed_few c.read_batch-end.new.merge _ (c.read_batch-end.ensures.counted c.args.both.now.before.book.count c.requires.passed) (omega (arith, same, few))

pub returns-in_ok-take_records-in-None-clause-passed : goal.returns-in_ok-take_records-in-None-clause-passed
returns-in_ok-take_records-in-None-clause-passed g c =
    rw (c.in_ok-take_records-in-None.ensures.before, c.take_records.ensures.merge)
    (c.read_batch-end.ensures.counted c.args.both.now.before.book.count c.requires.passed)

-- a batch that doesn't end the reading is full
pub returns-in_ok-take_records-in-None-clause-nearer : goal.returns-in_ok-take_records-in-None-clause-nearer
returns-in_ok-take_records-in-None-clause-nearer g c =
    let same = c.read_batch-end.ensures.captures.1 in
    let captures = c.requires.captures.1 in
    let few = passed_few c.read_batch-end.new.merge _ (c.read_batch-end.ensures.counted c.args.both.now.before.book.count c.requires.passed) (omega (arith, same, captures)) in
    let full = c.read_batch-end.ensures.full c.in-None.is in
    let more = c.in_ok-take_records-in-None.ensures.before in
    omega (arith, few, full, more)

pub returns-in_ok-take_records-in-Some-Ok-clause-passed : goal.returns-in_ok-take_records-in-Some-Ok-clause-passed
returns-in_ok-take_records-in-Some-Ok-clause-passed g c =
    rw (c.in_ok-take_records-in-Some-Ok.ensures.before, c.take_records-in-Some-Ok.ensures.merge)
    (c.read_batch-end.ensures.counted c.args.both.now.before.book.count c.requires.passed)
