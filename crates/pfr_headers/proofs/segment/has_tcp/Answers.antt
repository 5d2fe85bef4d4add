use Rattle.std.proofs.Common.{rules}
use Rattle.pfr_headers.proofs.segment.has_tcp.Goals as goal

pub returns-then-segment-header_length : goal.returns-then-segment-header_length
returns-then-segment-header_length c = search rules
