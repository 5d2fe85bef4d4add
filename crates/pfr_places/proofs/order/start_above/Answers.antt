use Rattle.pfr_places.proofs.ChangeLemmas.{from_here, from_there}
use Rattle.pfr_places.proofs.order.start_above.Goals as goal

pub returns-in-Ok : goal.returns-in-Ok
returns-in-Ok c = from_there c.args.order.now c.args.number c.in-Ok.at c.in-Ok.ensures.found

pub returns-in-Err : goal.returns-in-Err
returns-in-Err c = from_here c.args.order.now c.args.number c.in-Err.at c.in-Err.ensures.absent
