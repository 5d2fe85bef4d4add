use Rattle.std.proofs.Common.{sym, ap, ◌∙◌, arith}
use Rattle.pfr_claims.proofs.Moves.{collects_at}
use Rattle.pfr_claims.specs.Drawing.{knows}
use Rattle.pfr_claims.proofs.claims.Claims.collect.Goals as goal

pub join_seat-requires : goal.join_seat-requires
join_seat-requires c =
    let seat = c.into_seat.ensures in
    let table = sym (ap (λ batch. batch.table) c.self.view_is) in
    let own = sym (ap (λ batch. batch.sizes) c.self.view_is) in
    let sizes = ap (λ batch. batch.sizes) c.requires.pass in (
      c.requires.all.0 ∙ table,
      seat.table ∙ ap (λ batch. batch.table) c.requires.pass ∙ table,
      ap (λ me. me.1) seat.knows,
      omega arith,
      collects_at _ _ _ _ _ _ _ _ _ c.requires.all.1 (c.self.invariant.0 ∙ sym own) (ap (λ me. me.0) c.requires.all.2) (ap (λ me. me.0) seat.knows ∙ ap (λ known. knows known c.args.pass.drawn 0 1) sizes),
    )
