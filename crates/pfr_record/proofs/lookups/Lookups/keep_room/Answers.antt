use Rattle.std.proofs.Common.{subst}
use Rattle.pfr_states.specs.declared.question.Question.TheVariants.{Room}
use Rattle.pfr_record.specs.declared.answer.Answer.TheVariants.{HasRoom}
use Rattle.pfr_record.specs.Record.{Entries, Keeps, entries_of}
use Rattle.pfr_record.proofs.LookupLemmas.{keeps_room, keeps_then, kept_room}
use Rattle.pfr_record.proofs.lookups.Lookups.keep_room.Goals as goal

pub returns-then-note_room-clause-noted : goal.returns-then-note_room-clause-noted
returns-then-note_room-clause-noted c = kept_room c.self.inside.missed c.self.inside.missed_too c.note_room.new.place c.self.inside.others.entries Room (c.note_room.ensures.noted c.if-note_room.true)

pub returns-then-note_room-clause-keeps : goal.returns-then-note_room-clause-keeps
returns-then-note_room-clause-keeps c =
    let same = c.self.inside in
    subst (λ (old : Entries). Keeps old (entries_of same.missed same.missed_too c.note_room.new.place same.others.entries) Room (HasRoom c.args.room)) c.self.view_is
    (keeps_room same.missed same.missed_too same.room c.note_room.new.place same.others.entries Room (HasRoom c.args.room) c.note_room.ensures.keeps)

pub returns-clause-keeps : goal.returns-clause-keeps
returns-clause-keeps c =
    let same = c.self.inside in
    let others = same.others.entries in
    subst (λ (old : Entries). Keeps old c.keep_other.new.self Room (HasRoom c.args.room)) c.self.view_is
    (keeps_then (entries_of same.missed same.missed_too same.room others) (entries_of same.missed same.missed_too c.note_room.new.place others) c.keep_other.new.self Room (HasRoom c.args.room)
    (keeps_room same.missed same.missed_too same.room c.note_room.new.place others Room (HasRoom c.args.room) c.note_room.ensures.keeps)
    c.keep_other.ensures.keeps)
