use Rattle.std.proofs.Common.{◌∙◌, refl, subst, sym, arith}
use Rattle.std.proofs.lemmas.List.{take_at}
use Rattle.pfr_merge.specs.MergeReading.{NoneRefused}
use Rattle.pfr_merge.proofs.MergeReadingLemmas.{err_again, err_counted, err_reads, ok_again, ok_counted, ok_ends, ok_form, ok_forms, ok_headers, ok_reads, ok_running}
use Rattle.pfr_merge.proofs.merge.Merge.next.Goals as goal

pub returns-in-Ok-clause-forms : goal.returns-in-Ok-clause-forms
returns-in-Ok-clause-forms g c =
    ok_forms _ _ c.refill_all.new.inputs _ c.take_next.new.inputs _ (c.as_mut_slice.ensures.value ∙ c.self.view_is) (c.as_mut_slice-in-Ok.ensures.value ∙ take_at _ _ _ (omega arith)) (take_at _ _ _ (c.take_next.auto.inputs ∙ c.as_mut_slice-in-Ok.ensures.len)) c.in-Ok.ensures.settled c.refill_all.ensures.forms c.take_next.result c.take_next.ensures.none c.take_next.ensures.taken

pub returns-in-Ok-clause-headers : goal.returns-in-Ok-clause-headers
returns-in-Ok-clause-headers g c =
    ok_headers _ _ c.refill_all.new.inputs _ c.take_next.new.inputs _ (c.as_mut_slice.ensures.value ∙ c.self.view_is) (c.as_mut_slice-in-Ok.ensures.value ∙ take_at _ _ _ (omega arith)) (take_at _ _ _ (c.take_next.auto.inputs ∙ c.as_mut_slice-in-Ok.ensures.len)) c.in-Ok.ensures.settled c.refill_all.ensures.forms c.take_next.result c.take_next.ensures.none c.take_next.ensures.taken c.refill_all.ensures.headers

pub returns-in-Ok-clause-again : goal.returns-in-Ok-clause-again
returns-in-Ok-clause-again g c =
    λ answer over. (ok_again _ _ c.refill_all.new.inputs _ c.take_next.new.inputs c.take_next.new.inputs (c.as_mut_slice.ensures.value ∙ c.self.view_is) (c.as_mut_slice-in-Ok.ensures.value ∙ take_at _ _ _ (omega arith)) refl c.in-Ok.ensures.settled c.refill_all.ensures.forms c.take_next.result c.take_next.ensures.none c.take_next.ensures.taken c.args.sources.now c.refill_all.new.sources c.refill_all.ensures.stays c.in-Ok.ensures.again answer over).0

pub returns-in-Ok-clause-stays : goal.returns-in-Ok-clause-stays
returns-in-Ok-clause-stays g c =
    λ answer over.
    let again = ok_again _ _ c.refill_all.new.inputs _ c.take_next.new.inputs _ (c.as_mut_slice.ensures.value ∙ c.self.view_is) (c.as_mut_slice-in-Ok.ensures.value ∙ take_at _ _ _ (omega arith)) (take_at _ _ _ (c.take_next.auto.inputs ∙ c.as_mut_slice-in-Ok.ensures.len)) c.in-Ok.ensures.settled c.refill_all.ensures.forms c.take_next.result c.take_next.ensures.none c.take_next.ensures.taken c.args.sources.now c.refill_all.new.sources c.refill_all.ensures.stays c.in-Ok.ensures.again answer over in
    (again.1, again.2)

pub returns-in-Ok-clause-form : goal.returns-in-Ok-clause-form
returns-in-Ok-clause-form g c =
    ok_form _ _ c.refill_all.new.inputs _ c.take_next.new.inputs c.take_next.new.inputs (c.as_mut_slice.ensures.value ∙ c.self.view_is) (c.as_mut_slice-in-Ok.ensures.value ∙ take_at _ _ _ (omega arith)) refl c.in-Ok.ensures.settled c.refill_all.ensures.forms c.take_next.result c.take_next.ensures.none c.take_next.ensures.taken

pub returns-in-Ok-clause-reads : goal.returns-in-Ok-clause-reads
returns-in-Ok-clause-reads g c =
    λ told.
    ok_reads _ _ c.refill_all.new.inputs _ c.take_next.new.inputs _ (c.as_mut_slice.ensures.value ∙ c.self.view_is) (c.as_mut_slice-in-Ok.ensures.value ∙ take_at _ _ _ (omega arith)) (take_at _ _ _ (c.take_next.auto.inputs ∙ c.as_mut_slice-in-Ok.ensures.len)) c.in-Ok.ensures.settled c.refill_all.ensures.forms c.take_next.result c.take_next.ensures.none c.take_next.ensures.taken _ _ (c.refill_all.ensures.reads told)

pub returns-in-Ok-clause-end : goal.returns-in-Ok-clause-end
returns-in-Ok-clause-end g c =
    ok_ends _ _ c.refill_all.new.inputs _ c.take_next.new.inputs _ (c.as_mut_slice.ensures.value ∙ c.self.view_is) (c.as_mut_slice-in-Ok.ensures.value ∙ take_at _ _ _ (omega arith)) (take_at _ _ _ (c.take_next.auto.inputs ∙ c.as_mut_slice-in-Ok.ensures.len)) c.in-Ok.ensures.settled c.refill_all.ensures.forms c.take_next.result c.take_next.ensures.none c.take_next.ensures.taken

pub returns-in-Ok-clause-running : goal.returns-in-Ok-clause-running
returns-in-Ok-clause-running g c =
    ok_running _ _ c.refill_all.new.inputs _ c.take_next.new.inputs _ (c.as_mut_slice.ensures.value ∙ c.self.view_is) (c.as_mut_slice-in-Ok.ensures.value ∙ take_at _ _ _ (omega arith)) (take_at _ _ _ (c.take_next.auto.inputs ∙ c.as_mut_slice-in-Ok.ensures.len)) c.in-Ok.ensures.settled c.refill_all.ensures.forms c.take_next.result c.take_next.ensures.none c.take_next.ensures.taken

pub returns-in-Err-clause-again : goal.returns-in-Err-clause-again
returns-in-Err-clause-again g c =
    λ answer over. (err_again _ _ c.refill_all.new.inputs c.refill_all.new.inputs (c.as_mut_slice.ensures.value ∙ c.self.view_is) refl c.args.sources.now c.refill_all.new.sources c.in-Err.stop c.in-Err.ensures.stopped c.refill_all.ensures.stays c.in-Err.ensures.again c.refill_all.ensures.still answer over).0

pub returns-in-Err-clause-stays : goal.returns-in-Err-clause-stays
returns-in-Err-clause-stays g c =
    λ answer over.
    let again = err_again _ _ c.refill_all.new.inputs _ (c.as_mut_slice.ensures.value ∙ c.self.view_is) (take_at _ _ _ (omega arith)) c.args.sources.now c.refill_all.new.sources c.in-Err.stop c.in-Err.ensures.stopped c.refill_all.ensures.stays c.in-Err.ensures.again c.refill_all.ensures.still answer over in
    (again.1, again.2)

pub returns-in-Err-clause-reads : goal.returns-in-Err-clause-reads
returns-in-Err-clause-reads g c =
    λ told.
    err_reads _ _ c.refill_all.new.inputs _ (c.as_mut_slice.ensures.value ∙ c.self.view_is) (take_at _ _ _ (omega arith)) _ _ (c.refill_all.ensures.reads told)

pub returns-in-Err-clause-failed : goal.returns-in-Err-clause-failed
returns-in-Err-clause-failed g c =
    λ none. c.in-Err.ensures.failed (subst NoneRefused (sym (c.as_mut_slice.ensures.value ∙ c.self.view_is)) none)

pub returns-in-Ok-clause-counted : goal.returns-in-Ok-clause-counted
returns-in-Ok-clause-counted g c =
    ok_counted _ _ c.refill_all.new.inputs _ c.take_next.new.inputs _ (c.as_mut_slice.ensures.value ∙ c.self.view_is) (c.as_mut_slice-in-Ok.ensures.value ∙ take_at _ _ _ (omega arith)) (take_at _ _ _ (c.take_next.auto.inputs ∙ c.as_mut_slice-in-Ok.ensures.len)) c.in-Ok.ensures.settled c.refill_all.ensures.forms c.take_next.result c.take_next.ensures.none c.take_next.ensures.taken c.refill_all.ensures.counted

pub returns-in-Err-clause-counted : goal.returns-in-Err-clause-counted
returns-in-Err-clause-counted g c =
    err_counted _ _ c.refill_all.new.inputs _ (c.as_mut_slice.ensures.value ∙ c.self.view_is) (take_at _ _ _ (omega arith)) c.refill_all.ensures.counted
