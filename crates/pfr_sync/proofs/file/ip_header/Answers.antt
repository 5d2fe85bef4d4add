use Rattle.std.proofs.Common.{refl}
use Rattle.pfr_sync.specs.Files.{header_with}
use Rattle.pfr_sync.proofs.file.ip_header.Goals as goal

pub returns : goal.returns
unfolding header_with
returns c = rw (c.to_be_bytes.ensures, c.to_be_bytes-2.ensures, c.to_be_bytes-3.ensures, c.checksum.ensures) refl
