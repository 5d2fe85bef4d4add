use Rattle.std.proofs.Common.{IsTrue, sym, ◌∙◌, rules}
use Rattle.std.proofs.lemmas.Result.{err_from_is_err_and}
use Rattle.pfr_capture.proofs.DeviceLemmas.{added_none, added_on, part_after_fault}
use Rattle.pfr_capture.proofs.transfer.write_all.Goals as goal

pub returns-in_err-taken-clause-part : goal.returns-in_err-taken-clause-part
returns-in_err-taken-clause-part g c =
    let p = err_from_is_err_and c.from_residual.result c.from_residual.ensures.1 in
    rw p.1
    (λ told.
    let here : IsTrue (g.S.Sink.told c.loop-rest.sink) = rw c.loop-rest.invariant.told told in
    part_after_fault _ _ _ _ _ (c.loop-rest.invariant.written told) (sym c.is_empty.ensures ∙ c.loop-rest-test.true) (c.in_err-taken.ensures.written here))

pub returns-in_err-taken-clause-beginning : goal.returns-in_err-taken-clause-beginning
returns-in_err-taken-clause-beginning g c =
    λ told.
    let here : IsTrue (g.S.Sink.told c.loop-rest.sink) = rw c.loop-rest.invariant.told told in
    (c.loop-rest.rest.now, added_none _ _ _ _ _ (c.loop-rest.invariant.written told) (c.in_err-taken.ensures.written here))

pub loop-rest-preserved : goal.loop-rest-preserved
loop-rest-preserved g c = record {
  told = c.write.ensures.told ∙ c.loop-rest.invariant.told;
  written = λ told.
      let here : IsTrue (g.S.Sink.told c.loop-rest.sink) = rw c.loop-rest.invariant.told told in
      added_on _ _ _ _ _ _ c.in_ok-taken.taken (c.loop-rest.invariant.written told) (c.in_ok-taken.ensures.written here) c.split_at.ensures.back;
  failures = search rules;
}

pub returns-clause-beginning : goal.returns-clause-beginning
returns-clause-beginning g c = λ told. (c.loop-rest.rest.now, c.loop-rest.invariant.written told)
