use Rattle.pfr_packet.proofs.WayLemmas.{untouched_of}
use Rattle.pfr_packet.proofs.laws.what_is_passed_over_changes_nothing.Goals as goal

pub returns : goal.returns
returns c = untouched_of
