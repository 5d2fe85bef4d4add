use Rattle.pfr_headers.proofs.ChecksumLemmas.{mended_verifies, udp_verifies}
use Rattle.pfr_headers.proofs.laws.checksums_still_verify.Goals as goal

pub returns-clause-any : goal.returns-clause-any
returns-clause-any c = mended_verifies

pub returns-clause-udp : goal.returns-clause-udp
returns-clause-udp c = udp_verifies
