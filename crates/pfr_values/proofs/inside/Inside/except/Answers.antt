use Rattle.std.proofs.Common.{rules}
use Rattle.pfr_values.proofs.InsideLemmas.{excepted_behind}
use Rattle.pfr_values.proofs.inside.Inside.except.Goals as goal

pub returns-clause-once : goal.returns-clause-once
returns-clause-once c =
    rw c.in_ok-push.ensures.pushed
    (excepted_behind c.args.self.now.networks c.args.self.now.excepted c.args.network c.requires (search rules))
