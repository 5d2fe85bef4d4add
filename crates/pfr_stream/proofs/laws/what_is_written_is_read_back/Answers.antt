use Rattle.pfr_stream.proofs.BackLemmas.{files_are_read, spellings_are_read}
use Rattle.pfr_stream.proofs.laws.what_is_written_is_read_back.Goals as goal

pub returns : goal.returns
returns c = record { file = files_are_read; bare = spellings_are_read }
