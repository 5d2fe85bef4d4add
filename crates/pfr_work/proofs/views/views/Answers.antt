use Rattle.std.proofs.Common.{◌∙◌, ap}
use Rattle.rayon.proofs.ToStd.{slice-AllZip}
use Rattle.pfr_feed.specs.Batches.{IsViewOf}
use Rattle.pfr_work.proofs.views.views.Goals as goal

pub returns-in-Ok : goal.returns-in-Ok
returns-in-Ok g c =
    let slice = ap (λ it. it.slice.now) c.map.ensures.base ∙ c.par_iter.ensures in
    let made = c.in-Ok.ensures in
    let chain = made.1 in
    rw made.2 (slice-AllZip chain.0 c.args.records.now (chain.1 ∙ slice) IsViewOf made.0 chain.2)
