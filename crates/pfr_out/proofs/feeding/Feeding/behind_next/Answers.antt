use Rattle.std.proofs.Common.{arith}
use Rattle.pfr_merge.proofs.CountLemmas.{passed_few}
use Rattle.pfr_out.proofs.feeding.Feeding.behind_next.Goals as goal

pub overflow_add-self : goal.overflow_add-self
overflow_add-self g c =
    let it = c.args.self.now in
    let few = passed_few it.merge.now it.given it.counted.1 it.captures.1 in
    let less = it.counted.0 in
    let most = it.batch.1 in
    omega (arith, few, less, most)
