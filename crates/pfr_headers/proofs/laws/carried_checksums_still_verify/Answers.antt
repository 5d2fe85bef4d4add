use Rattle.pfr_headers.proofs.CarriedLemmas.{frame_icmp, frame_tcp, frame_udp, frame_unsummed}
use Rattle.pfr_headers.proofs.laws.carried_checksums_still_verify.Goals as goal

pub returns-clause-tcp : goal.returns-clause-tcp
returns-clause-tcp c = frame_tcp

pub returns-clause-udp : goal.returns-clause-udp
returns-clause-udp c = frame_udp

pub returns-clause-udp_without : goal.returns-clause-udp_without
returns-clause-udp_without c = frame_unsummed

pub returns-clause-icmp : goal.returns-clause-icmp
returns-clause-icmp c = frame_icmp
