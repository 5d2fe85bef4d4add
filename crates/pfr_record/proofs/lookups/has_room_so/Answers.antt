use Rattle.pfr_states.specs.Answers.{purged_at}
use Rattle.pfr_record.proofs.LookupLemmas.{agree_room, room_agrees}
use Rattle.pfr_record.proofs.lookups.has_room_so.Goals as goal

pub returns-in-Some : goal.returns-in-Some
returns-in-Some c =
    let seen = purged_at c.args.clock c.args.table.now in (
      λ so. agree_room seen c.args.room.now c.in-Some.room c.in-Some.is (c.has_room.ensures.0 so),
      λ agrees. c.has_room.ensures.1 (room_agrees seen c.args.room.now c.in-Some.room c.in-Some.is agrees),
    )
