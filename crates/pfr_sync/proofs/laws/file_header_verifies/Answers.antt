use Rattle.pfr_sync.proofs.FileLemmas.{header_length, header_verifies}
use Rattle.pfr_sync.specs.Files.{checksum_of}
use Rattle.pfr_sync.proofs.laws.file_header_verifies.Goals as goal

pub returns-clause-length : goal.returns-clause-length
returns-clause-length c = λ source len. header_length (checksum_of source len) source len

pub returns-clause-checksum : goal.returns-clause-checksum
returns-clause-checksum c = header_verifies
