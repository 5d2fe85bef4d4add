use Rattle.std.proofs.Common.{◌≡◌, ◌≤◌, ap, arith, ◌++◌, ◌∷◌, []}
use Rattle.pfr_claims.proofs.Sums.{bound_of, bound_least, bound_push}
use Rattle.pfr_workers.proofs.hand.answer_numbers.Goals as goal

-- the number that is drawn is below the count, and what is drawn later is above it
pub draws-smaller : goal.draws-smaller
draws-smaller g c =
    let number = c.in-Number.number in
    let claimed = c.in-Number.ensures in
    let least : bound_of c.draws.live.drawn ≤ number = bound_least c.draws.live.drawn number claimed.2 in
    let grown = bound_push c.draws.live.drawn number in
    let same : bound_of c.in-Number.pass.drawn ≡ bound_of (c.draws.live.drawn ++ number ∷ []) = ap (λ pass. bound_of pass.drawn) claimed.3 in
    let below = claimed.0 in
    omega arith
