use Rattle.std.proofs.Common.{arith}
use Rattle.pfr_given.proofs.WrittenLemmas.{within}
use Rattle.pfr_given.proofs.written.last_address.Goals as goal

pub overflow_add-result : goal.overflow_add-result
overflow_add-result c =
    let low = within c.saturating_sub-ignored.result (omega arith) in
    omega (arith, low)
