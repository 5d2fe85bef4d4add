use Rattle.pfr_messages.proofs.Puts.{first}
use Rattle.pfr_messages.proofs.Fitting.{update_maker, update_other}
use Rattle.pfr_messages.proofs.writing.put_update.Goals as goal

pub returns : goal.returns
returns c =
    first c.in_ok-put_u64.ensures
    (first c.in_ok-put_peer.ensures
    (first c.in_ok-put_peer-2.ensures
    (first c.in_ok-put_u32.ensures
    (first c.in_ok-put_u32-2.ensures (first c.in_ok-put_timeout.ensures c.in_ok-put_zeros.ensures)))))

pub put_peer-requires : goal.put_peer-requires
put_peer-requires c = update_maker c.args.update.now c.requires

pub put_peer-requires-2 : goal.put_peer-requires-2
put_peer-requires-2 c = update_other c.args.update.now c.requires
