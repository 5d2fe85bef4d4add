use Rattle.std.proofs.Common.{◌≡◌, drop}
use Rattle.pfr_rewrite.specs.UnseenLists as spec
use Rattle.pfr_rewrite.proofs.unseen_list.unseen_list.Given as goal

abbrev pub invariant-loop-at : goal.invariant-loop-at
invariant-loop-at l = spec.list_from l.known l.seen (drop l.at l.marks) ≡ spec.unseen_list l.known l.left l.marks
