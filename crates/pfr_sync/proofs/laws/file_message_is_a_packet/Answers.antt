use Rattle.pfr_sync.proofs.PacketLemmas as lemmas
use Rattle.pfr_sync.proofs.laws.file_message_is_a_packet.Goals as goal

pub returns : goal.returns
returns c = lemmas.file_message_is_a_packet
