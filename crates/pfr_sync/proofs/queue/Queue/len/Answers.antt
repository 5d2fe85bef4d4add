use Rattle.std.proofs.Common.{rules, ◌≡◌, ◌≤◌, length, subst, sym}
use Rattle.std.specs.Prelude.{ℕ}
use Rattle.pfr_sync.proofs.QueueLemmas.{few}
use Rattle.pfr_sync.proofs.queue.Queue.len.Goals as goal

pub returns-clause-few : goal.returns-clause-few
returns-clause-few c =
    let count : c.len.result ≡ length c.self.inside.entries = search rules in
    subst (λ (n : ℕ). n ≤ 121) (sym count) (few c.self.inside.origin c.self.inside.entries c.self.invariant.0)
