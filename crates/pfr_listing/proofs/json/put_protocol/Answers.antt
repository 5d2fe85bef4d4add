use Rattle.pfr_listing.proofs.AppendLemmas.{three_on}
use Rattle.pfr_listing.proofs.json.put_protocol.Goals as goal

pub returns : goal.returns
returns c = three_on _ _ _ _ _ _ _ _ c.in_ok-put_protocol_number.ensures c.in_ok-extend_from_slice.ensures.items c.put_direction.ensures
