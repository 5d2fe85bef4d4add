use Rattle.pfr_expand.proofs.Places.{copy_is_placed}
use Rattle.pfr_expand.proofs.body.add_copy.Goals as goal

pub returns-clause-placed : goal.returns-clause-placed
returns-clause-placed c = copy_is_placed c.args.anchor c.put_copy.new.out c.args.inner.now c.args.out.now c.args.packet c.in_ok-put_copy.ensures c.requires.some c.requires.inner c.requires.placed
