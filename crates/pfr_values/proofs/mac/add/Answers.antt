use Rattle.std.proofs.Common.{rules}
use Rattle.pfr_values.proofs.MacLemmas.{adds_one, macs_behind}
use Rattle.pfr_values.proofs.mac.add.Goals as goal

pub returns-clause-macs : goal.returns-clause-macs
returns-clause-macs c =
    rw c.in_ok-push.ensures.pushed
    (macs_behind c.args.captures.now c.args.macs.now c.in_ok-mac.mac c.requires (search rules) (search rules))

pub returns-clause-added : goal.returns-clause-added
returns-clause-added c = rw c.in_ok-push.ensures.pushed (adds_one c.args.word.now c.args.macs.now c.in_ok-mac.mac (search rules))
