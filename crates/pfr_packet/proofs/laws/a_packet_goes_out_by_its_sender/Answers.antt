use Rattle.pfr_packet.proofs.SettingLemmas.{goes_out_by_its_sender}
use Rattle.pfr_packet.proofs.laws.a_packet_goes_out_by_its_sender.Goals as goal

pub returns : goal.returns
returns c = goes_out_by_its_sender
