use Rattle.std.proofs.Common.{◌≡◌, ◌∙◌, List, Some, ap, subst, sym}
use Rattle.std.specs.Arc.{arc_value}
use Rattle.pfr_headers.specs.declared.packet.View.{View}
use Rattle.pfr_capture.specs.declared.capture.Record.{Record}
use Rattle.pfr_commit.specs.Emissions.{are_kept, items_of, listed, texts_of}
use Rattle.pfr_feed.specs.Batches.{records_of}
use Rattle.pfr_feed.specs.Turns.{TakesBatch}
use Rattle.pfr_feed.proofs.TakeLemmas.{takes_listed}
use Rattle.pfr_work.proofs.BackLemmas.{one_came, whole_came}
use Rattle.pfr_work.proofs.oldest.commit_oldest.Goals as goal

pub returns-then-not-put-clause-back : goal.returns-then-not-put-clause-back
returns-then-not-put-clause-back g c = one_came c.finish-groups.result.gathered _ _ _ _ _ c.finish-groups.ensures.own c.put.ensures.entries c.put.ensures.lost

pub returns-then-not-put-clause-stays : goal.returns-then-not-put-clause-stays
returns-then-not-put-clause-stays g c = λ n room. (c.put.ensures.stays n room.0, c.put.ensures.lost_stays n room.1)

pub returns-in_err-groups-clause-back : goal.returns-in_err-groups-clause-back
returns-in_err-groups-clause-back g c = one_came c.finish-groups.result.gathered _ _ _ _ _ c.finish-groups.ensures.own c.put.ensures.entries c.put.ensures.lost

pub returns-in_err-groups-clause-stays : goal.returns-in_err-groups-clause-stays
returns-in_err-groups-clause-stays g c = λ n room. (c.put.ensures.stays n room.0, c.put.ensures.lost_stays n room.1)

pub returns-in_err-no_changes-clause-back : goal.returns-in_err-no_changes-clause-back
returns-in_err-no_changes-clause-back g c = one_came c.finish-groups.result.gathered _ _ _ _ _ c.finish-groups.ensures.own c.put.ensures.entries c.put.ensures.lost

pub returns-in_err-no_changes-clause-stays : goal.returns-in_err-no_changes-clause-stays
returns-in_err-no_changes-clause-stays g c = λ n room. (c.put.ensures.stays n room.0, c.put.ensures.lost_stays n room.1)

pub returns-in_err-commit_batch_of_job-clause-back : goal.returns-in_err-commit_batch_of_job-clause-back
returns-in_err-commit_batch_of_job-clause-back g c = one_came c.finish-groups.result.gathered _ _ _ _ _ c.finish-groups.ensures.own c.put.ensures.entries c.put.ensures.lost

pub returns-in_err-commit_batch_of_job-clause-stays : goal.returns-in_err-commit_batch_of_job-clause-stays
returns-in_err-commit_batch_of_job-clause-stays g c = λ n room. (c.put.ensures.stays n room.0, c.put.ensures.lost_stays n room.1)

pub returns-clause-taken : goal.returns-clause-taken
returns-clause-taken g c =
    let packets = c.as_slice-packets.result.now in
    let of_batch = c.as_slice-packets.ensures.value ∙ ap (λ batch. batch.packets.items) c.deref.ensures in
    let are : packets ≡ (arc_value c.args.oldest.batch).packets.items = rw c.finish-groups.ensures.batch at of_batch in
    subst (λ (ps : List (Record × View)). TakesBatch c.args.book.now c.commit_batch_of_job.new.self (records_of ps) (texts_of c.commit_batch_of_job.new.out) (listed c.in-Some.changes)) are
    (takes_listed c.args.book.now c.commit_batch_of_job.new.self (record { verdicts = c.piece-piece.result.verdicts; packets = c.piece-piece.result.packets; messages = c.piece-piece.result.messages; changes = Some c.in_ok-no_changes.field-0 }) c.commit_batch_of_job.new.out packets (are_kept c.in_ok-no_changes.field-0) (are_kept c.in-Some.changes) (listed c.in_ok-no_changes.field-0) (listed c.in-Some.changes)
    c.piece-piece.ensures.texts c.in_ok-commit_batch_of_job.ensures.taken.told c.in_ok-no_changes.ensures.none (ap items_of (sym c.in-Some.is ∙ c.take.ensures.value) ∙ c.in_ok-commit_batch_of_job.ensures.taken.changes))

pub returns-clause-whole : goal.returns-clause-whole
returns-clause-whole g c = rw (c.note.ensures.items.0, c.note.ensures.items.1) (whole_came c.finish-groups.result.gathered _ _ _ _ _ (c.put.ensures.told.0 c.if-not-put.false) c.finish-groups.ensures.own c.put.ensures.entries c.put.ensures.lost)

pub returns-clause-back : goal.returns-clause-back
returns-clause-back g c = rw (c.note.ensures.items.0, c.note.ensures.items.1) (one_came c.finish-groups.result.gathered _ _ _ _ _ c.finish-groups.ensures.own c.put.ensures.entries c.put.ensures.lost)

pub returns-clause-stays : goal.returns-clause-stays
returns-clause-stays g c = λ n room. rw (c.note.ensures.items.0, c.note.ensures.items.1) (c.put.ensures.stays n room.0, c.put.ensures.lost_stays n room.1)
