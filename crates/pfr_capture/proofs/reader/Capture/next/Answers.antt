use Rattle.std.proofs.Common.{refl}
use Rattle.pfr_capture.proofs.ReadingLemmas.{ends_capture, reads_none, reads_record, refuses_as}
use Rattle.pfr_capture.proofs.reader.Capture.next.Goals as goal

pub returns-in-Ok-Found-clause-reads_on : goal.returns-in-Ok-Found-clause-reads_on
returns-in-Ok-Found-clause-reads_on g c =
    λ over told.
    let says = rw c.in-Ok-Found.field-0-is at c.in-Ok-Found.ensures.says in
    let takes = rw c.in-Ok-Found.field-0-is at (c.in-Ok-Found.ensures.takes told) in
    rw (← c.self.view_is) (reads_record _ _ _ _ c.in-Ok-Found.record takes says.1 refl refl says.0 refl)

pub returns-in-Ok-Ended-clause-reads_on : goal.returns-in-Ok-Ended-clause-reads_on
returns-in-Ok-Ended-clause-reads_on g c =
    λ over told.
    let takes = rw c.in-Ok-Ended.field-0-is at (c.in-Ok-Ended.ensures.takes told) in
    rw (← c.self.view_is) (reads_none _ _ _ _ takes refl refl refl)

pub returns-in-Ok-Ended-clause-end : goal.returns-in-Ok-Ended-clause-end
returns-in-Ok-Ended-clause-end g c =
    λ over told.
    let ends = rw c.in-Ok-Ended.field-0-is at (c.in-Ok-Ended.ensures.ends told) in
    rw (← c.self.view_is) (ends_capture _ _ _ ends)

pub returns-in-Err-find_next-clause-reads_on : goal.returns-in-Err-find_next-clause-reads_on
returns-in-Err-find_next-clause-reads_on g c =
    λ over told.
    rw (← c.self.view_is) (reads_none _ _ _ _ (c.in-Err-find_next.ensures.takes told) refl refl refl)

pub returns-in-Err-find_next-clause-refused : goal.returns-in-Err-find_next-clause-refused
returns-in-Err-find_next-clause-refused g c =
    λ over told.
    rw (← c.self.view_is) (refuses_as _ _ c.in-Err-find_next.e (c.in-Err-find_next.ensures.refused told))
