use Rattle.std.proofs.lemmas.Result.{err_from_is_err_and}
use Rattle.pfr_capture.proofs.RecordLemmas.{came_twice, lacks_record}
use Rattle.pfr_capture.proofs.reader.look_for_record.Goals as goal

pub returns-in_err-fill-in-Captured-clause-came : goal.returns-in_err-fill-in-Captured-clause-came
returns-in_err-fill-in-Captured-clause-came g c =
    λ told.
    came_twice _ _ _ _ _ _ (c.look_for_header.ensures.came told) (c.fill.ensures.came (rw c.look_for_header.ensures.told told))

pub returns-then-not-branch-clause-came : goal.returns-then-not-branch-clause-came
returns-then-not-branch-clause-came g c =
    λ told.
    came_twice _ _ _ _ _ _ (c.look_for_header.ensures.came told) (c.fill.ensures.came (rw c.look_for_header.ensures.told told))

pub returns-else-not-branch-clause-came : goal.returns-else-not-branch-clause-came
returns-else-not-branch-clause-came g c =
    λ told.
    came_twice _ _ _ _ _ _ (c.look_for_header.ensures.came told) (c.fill.ensures.came (rw c.look_for_header.ensures.told told))

pub returns-in_err-fill-in-Captured-clause-lacks : goal.returns-in_err-fill-in-Captured-clause-lacks
returns-in_err-fill-in-Captured-clause-lacks g c =
    let has = rw c.in-Captured.is at c.in_ok-tail.ensures.says in
    let p = err_from_is_err_and c.from_residual-in_err-fill-in-Captured.result c.from_residual-in_err-fill-in-Captured.ensures.1 in
    rw (p.1, p.2) (lacks_record c.args.order c.args.count c.look_for_header.new.ahead c.fill.new.self c.in-Captured.captured c.in_err-fill-in-Captured.field-0.0 has c.fill.ensures.extends c.in_err-fill-in-Captured.ensures.early)
