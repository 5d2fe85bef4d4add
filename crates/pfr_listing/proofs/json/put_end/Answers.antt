use Rattle.pfr_listing.proofs.AppendLemmas.{three_if}
use Rattle.pfr_listing.proofs.json.put_end.Goals as goal

pub returns : goal.returns
returns c = three_if _ _ _ _ _ _ _ _ c.in_ok-put_host.ensures c.in_ok-put_port.ensures c.extend_from_slice.ensures.items
