use Rattle.pfr_capture.proofs.ReadingLemmas.{found_record}
use Rattle.pfr_capture.proofs.reader.find_next.Goals as goal

pub returns-in_ok-record-in-Captured-clause-says : goal.returns-in_ok-record-in-Captured-clause-says
returns-in_ok-record-in-Captured-clause-says g c =
    let has = rw c.in-Captured.is at c.in_ok-tail.ensures.says in
    let whole = rw c.in-Captured.is at c.in_ok-tail.ensures.whole in
    let r = rw c.bytes.ensures at c.in_ok-record-in-Captured.ensures in
    (has.may_follow, found_record c.args.form c.args.count c.in-Captured.captured c.look_for_record.new.ahead c.in_ok-record-in-Captured.record has whole r.header r.bytes, r.fields)
