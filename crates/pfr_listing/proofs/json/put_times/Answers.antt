use Rattle.pfr_listing.proofs.AppendLemmas.{two_on}
use Rattle.pfr_listing.proofs.json.put_times.Goals as goal

pub returns : goal.returns
returns c = two_on _ _ _ _ _ _ c.in_ok-put_clock.ensures c.put_count.ensures
