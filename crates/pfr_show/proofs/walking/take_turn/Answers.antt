use Rattle.std.proofs.Common.{◌≡◌, length, arith}
use Rattle.pfr_merge.proofs.CountLemmas.{passed_few}
use Rattle.pfr_show.proofs.walking.take_turn.Goals as goal

-- the captures have at most 2^43 records
pub overflow_add-read : goal.overflow_add-read
overflow_add-read g c =
    let same = c.read_batch-end.ensures.captures.1 in
    let captures = c.requires.captures.1 in
    let few = passed_few c.read_batch-end.new.merge _ (c.read_batch-end.ensures.counted c.args.taken c.requires.passed) (omega (arith, same, captures)) in
    let long = c.len.ensures in
    omega (arith, few, long)

pub returns-in-None-clause-passed : goal.returns-in-None-clause-passed
returns-in-None-clause-passed g c =
    let long = c.len.ensures in
    let count : c.len.result ≡ length c.read_batch-end.new.records.items = omega (arith, long) in
    rw (count, c.take_records.ensures) (c.read_batch-end.ensures.counted c.args.taken c.requires.passed)

-- a batch that doesn't end the reading is full
pub returns-in-None-clause-nearer : goal.returns-in-None-clause-nearer
returns-in-None-clause-nearer g c =
    let same = c.read_batch-end.ensures.captures.1 in
    let captures = c.requires.captures.1 in
    let few = passed_few c.read_batch-end.new.merge _ (c.read_batch-end.ensures.counted c.args.taken c.requires.passed) (omega (arith, same, captures)) in
    let full = c.read_batch-end.ensures.full c.in-None.is in
    let long = c.len.ensures in
    omega (arith, few, full, long)

pub returns-in-Some-Ok-clause-passed : goal.returns-in-Some-Ok-clause-passed
returns-in-Some-Ok-clause-passed g c =
    let long = c.len.ensures in
    let count : c.len.result ≡ length c.read_batch-end.new.records.items = omega (arith, long) in
    rw (count, c.take_records.ensures) (c.read_batch-end.ensures.counted c.args.taken c.requires.passed)
