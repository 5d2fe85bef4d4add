use Rattle.std.proofs.Common.{rules}
use Rattle.pfr_sync.proofs.NameLemmas.{plain_names_from}
use Rattle.pfr_sync.proofs.QueueLemmas.{queue_empty}
use Rattle.pfr_sync.proofs.queue.Queue.new.Goals as goal

pub invariant_of-result : goal.invariant_of-result
invariant_of-result c = rw c.new.ensures (queue_empty _ (plain_names_from c.args.interfaces.now c.plain_names.result c.plain_names.ensures) (search rules), c.one_of.ensures.counts)
