use Rattle.pfr_headers.proofs.FieldLemmas.{frame_byte, frame_length}
use Rattle.pfr_headers.proofs.laws.the_rest_stays.Goals as goal

pub returns-clause-length : goal.returns-clause-length
returns-clause-length c = frame_length

pub returns-clause-bytes : goal.returns-clause-bytes
returns-clause-bytes c = frame_byte
