use Rattle.std.proofs.Common.{sym, ap, ◌∙◌, arith}
use Rattle.pfr_claims.proofs.Moves.{draws_at}
use Rattle.pfr_claims.proofs.claims.Claims.claim.Goals as goal

pub fetch_add-number-requires : goal.fetch_add-number-requires
fetch_add-number-requires c =
    let same = ap (λ pass. pass.batch) c.pass.view_is ∙ c.requires ∙ sym c.self.view_is in (
      ap (λ batch. batch.table) same,
      omega arith,
      draws_at _ _ _ _ _ _ (c.self.invariant.0 ∙ sym (ap (λ batch. batch.sizes) same)) c.pass.invariant.0,
    )
