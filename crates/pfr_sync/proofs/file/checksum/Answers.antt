use Rattle.std.proofs.Common.{arith}
use Rattle.pfr_sync.proofs.FileLemmas.{checksum_is}
use Rattle.pfr_sync.proofs.file.checksum.Goals as goal

pub returns : goal.returns
returns c =
    let is = checksum_is c.args.source c.args.len (omega arith) (omega arith) in
    omega arith
