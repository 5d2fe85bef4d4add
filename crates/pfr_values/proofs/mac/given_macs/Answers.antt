use Rattle.std.proofs.Common.{rules}
use Rattle.pfr_values.proofs.MacLemmas.{no_macs}
use Rattle.pfr_values.proofs.mac.given_macs.Goals as goal
use Rattle.pfr_values.proofs.mac.given_macs.Goals.{in-Some+in_ok-add_all, in_default}

pub add_all-requires : goal.add_all-requires
add_all-requires c = rw c.new-macs.ensures (no_macs c.args.captures.now)

pub returns-clause-macs : goal.returns-clause-macs
returns-clause-macs c = elim c.match-get_strs.branch [
  | in-Some+in_ok-add_all w ↦ rw w.macs-is (search rules)
  | in_default w ↦ rw (w.macs-is, c.new-macs.ensures) (no_macs c.args.captures.now)
]
