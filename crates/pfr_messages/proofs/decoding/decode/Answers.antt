use Rattle.std.proofs.Common.{◌∙◌, ℕ, Result, sym, ap, subst, arith}
use Rattle.std.proofs.lemmas.Result.{err_from_is_err_and}
use Rattle.pfr_messages.specs.declared.error.SyncError.{SyncError}
use Rattle.pfr_messages.specs.Messages.{Content, IsRefused, content, message_at}
use Rattle.pfr_messages.proofs.Whole.{found, message_again, message_takes}
use Rattle.pfr_messages.proofs.decoding.decode.Goals as goal

pub returns-in_err-parts-clause-only : goal.returns-in_err-parts-clause-only
returns-in_err-parts-clause-only c = λ m rest fits e.
    let p = err_from_is_err_and c.from_residual.result c.from_residual.ensures.1 in
    rw (p.1, p.2) (subst (λ (read : Result (Content × ℕ) SyncError). IsRefused c.in_err-parts.field-0.0 read)
    (ap message_at e ∙ message_again m rest fits) c.in_err-parts.ensures)

pub new-message-requires : goal.new-message-requires
new-message-requires c =
    (message_takes c.args.bytes.now (content c.in_ok-parts.parts) c.in_ok-parts.len (λ i. omega (arith, c.type_inv.bytes i))
    c.in_ok-parts.ensures).1.fits

pub returns-clause-found : goal.returns-clause-found
returns-clause-found c =
    let takes = message_takes c.args.bytes.now (content c.in_ok-parts.parts) c.in_ok-parts.len
    (λ i. omega (arith, c.type_inv.bytes i)) c.in_ok-parts.ensures in
    rw c.new-message.ensures takes

pub returns-clause-only : goal.returns-clause-only
returns-clause-only c = λ m rest fits e.
    sym (ap message_at e ∙ message_again m rest fits) ∙ c.in_ok-parts.ensures
    ∙ ap (λ (x : Content). found (x, c.in_ok-parts.len)) (sym c.new-message.ensures)
