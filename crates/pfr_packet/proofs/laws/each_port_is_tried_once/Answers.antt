use Rattle.pfr_packet.proofs.TryLemmas.{never_tried, tried_once}
use Rattle.pfr_packet.proofs.laws.each_port_is_tried_once.Goals as goal

pub returns : goal.returns
returns c = λ low high word port order. (tried_once low high word port order, never_tried low high word port order)
