use Rattle.pfr_headers.proofs.EmbeddedLemmas.{frame_echo, frame_header, frame_udp, frame_unsummed}
use Rattle.pfr_headers.proofs.laws.embedded_checksums_still_verify.Goals as goal

pub returns-clause-header : goal.returns-clause-header
returns-clause-header c = frame_header

pub returns-clause-udp : goal.returns-clause-udp
returns-clause-udp c = frame_udp

pub returns-clause-udp_without : goal.returns-clause-udp_without
returns-clause-udp_without c = frame_unsummed

pub returns-clause-echo : goal.returns-clause-echo
returns-clause-echo c = frame_echo
