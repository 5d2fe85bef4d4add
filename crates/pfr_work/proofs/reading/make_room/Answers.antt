use Rattle.pfr_work.proofs.reading.make_room.Goals as goal

pub returns-clause-stays : goal.returns-clause-stays
returns-clause-stays g c = λ n room. (c.reserve-2.ensures.stays n room.0, c.reserve-2.ensures.lost_stays n room.1)
