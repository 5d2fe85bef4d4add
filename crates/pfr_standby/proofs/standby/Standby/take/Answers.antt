use Rattle.pfr_standby.proofs.BoundLemmas.{none_after}
use Rattle.pfr_standby.proofs.standby.Standby.take.Goals as goal

pub invariant_of-self-2 : goal.invariant_of-self-2
invariant_of-self-2 c =
    rw (c.greatest_of-self-inside.ensures, c.insertions-3.ensures, c.delete_all.ensures, c.deletions.ensures, c.update_all.ensures, c.updates.ensures, c.in_ok-insert_all.ensures.added, c.insertions-2.ensures)
    (none_after c.self.inside.greatest c.args.message.now c.self.inside.states.entries c.self.invariant)
