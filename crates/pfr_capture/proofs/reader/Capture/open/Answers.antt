use Rattle.std.proofs.Common.{◌≡◌, ◌≤◌, length, take, sym, rules, refl}
use Rattle.std.proofs.lemmas.Result.{err_from_is_err_and}
use Rattle.pfr_capture.proofs.ReadingLemmas.{refuses_header, opens}
use Rattle.pfr_capture.proofs.reader.Capture.open.Goals as goal

pub returns-in_err-form-clause-refused : goal.returns-in_err-form-clause-refused
returns-in_err-form-clause-refused g c =
    let p = err_from_is_err_and c.from_residual-in_err-form.result c.from_residual-in_err-form.ensures.1 in
    let long : 24 ≤ length c.fill.new.self = search rules in
    let header : c.header_at-header.result ≡ take 24 c.fill.new.self = rw (← c.bytes.ensures) c.header_at-header.ensures in
    rw (p.1, p.2)
    (λ told.
    refuses_header _ c.fill.new.self _ c.in_err-form.field-0.0 (rw c.new-ahead.ensures at (c.in_ok-fill.ensures.came told)) long (rw (← header) (sym c.in_err-form.ensures.form)) c.in_err-form.ensures.faults)

pub returns-clause-opens : goal.returns-clause-opens
returns-clause-opens g c =
    let long : 24 ≤ length c.fill.new.self = search rules in
    let header : c.header_at-header.result ≡ take 24 c.fill.new.self = rw (← c.bytes.ensures) c.header_at-header.ensures in
    λ told.
    opens _ c.fill.new.self _ _ (rw c.new-ahead.ensures at (c.in_ok-fill.ensures.came told)) long header c.take.ensures (rw (← header) (sym c.in_ok-form.ensures.form)) refl
