use Rattle.pfr_packet.proofs.SettingLemmas.{goes_by_source}
use Rattle.pfr_packet.proofs.laws.a_packet_goes_by_its_source_by_default.Goals as goal

pub returns : goal.returns
returns c = goes_by_source
