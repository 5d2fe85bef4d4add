use Rattle.pfr_headers.proofs.TranslatedLemmas.{frame_translated}
use Rattle.pfr_headers.proofs.laws.what_is_written_is_the_translated_packet.Goals as goal

pub returns : goal.returns
returns c = frame_translated
