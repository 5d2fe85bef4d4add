use Rattle.pfr_merge.proofs.PlaceLemmas.{each_keeps_its_order}
use Rattle.pfr_merge.proofs.laws.each_keeps_its_order.Goals as goal

pub returns : goal.returns
returns c = each_keeps_its_order
