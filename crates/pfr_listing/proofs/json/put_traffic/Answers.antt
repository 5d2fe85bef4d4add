use Rattle.pfr_listing.proofs.AppendLemmas.{three_if}
use Rattle.pfr_listing.proofs.json.put_traffic.Goals as goal

pub returns : goal.returns
returns c = three_if _ _ _ _ _ _ _ _ c.in_ok-put_count.ensures c.in_ok-put_count-2.ensures c.extend_from_slice.ensures.items
