use Rattle.std.proofs.Common.{rules}
use Rattle.pfr_headers.proofs.WordLemmas.{next_kept}
use Rattle.pfr_headers.proofs.checksum.put_address.Goals as goal

pub returns-clause-brings : goal.returns-clause-brings
returns-clause-brings c = search (rules, next_kept)
