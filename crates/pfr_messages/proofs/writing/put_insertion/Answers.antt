use Rattle.pfr_messages.proofs.Puts.{first}
use Rattle.pfr_messages.proofs.Fitting.{insertion_maker, insertion_other}
use Rattle.pfr_messages.proofs.writing.put_insertion.Goals as goal

pub returns : goal.returns
returns c =
    first c.in_ok-put_u64.ensures
    (first c.in_ok-put_name.ensures
    (first c.in_ok-put_parties.ensures
    (first c.in_ok-put_parties-2.ensures
    (first c.in_ok-put_peer.ensures (first c.in_ok-put_peer-2.ensures c.in_ok-put_rest.ensures)))))

pub put_peer-requires : goal.put_peer-requires
put_peer-requires c = insertion_maker c.args.insertion.now c.requires

pub put_peer-requires-2 : goal.put_peer-requires-2
put_peer-requires-2 c = insertion_other c.args.insertion.now c.requires
