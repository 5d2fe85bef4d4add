use Rattle.std.proofs.Common.{None, subst}
use Rattle.pfr_states.specs.declared.question.Question.TheVariants.{At}
use Rattle.pfr_record.specs.declared.answer.Answer.TheVariants.{Found}
use Rattle.pfr_record.specs.Record.{Entries, Keeps, entries_of}
use Rattle.pfr_record.proofs.LookupLemmas.{keeps_missed, keeps_missed_too, keeps_then, kept_missed_too}
use Rattle.pfr_record.proofs.lookups.Lookups.keep_missed.Goals as goal

pub returns-then-note_missed-clause-keeps : goal.returns-then-note_missed-clause-keeps
returns-then-note_missed-clause-keeps c =
    let same = c.self.inside in
    subst (λ (old : Entries). Keeps old (entries_of c.note_missed.new.place same.missed_too same.room same.others.entries) (At c.args.side c.args.key c.args.scope) (Found None)) c.self.view_is
    (keeps_missed same.missed c.note_missed.new.place same.missed_too same.room same.others.entries (At c.args.side c.args.key c.args.scope) (Found None) c.note_missed.ensures.keeps)

pub returns-then-note_missed-2-clause-noted : goal.returns-then-note_missed-2-clause-noted
returns-then-note_missed-2-clause-noted c =
    kept_missed_too c.note_missed.new.place c.note_missed-2.new.place c.self.inside.room c.self.inside.others.entries (At c.args.side c.args.key c.args.scope) (c.note_missed-2.ensures.noted c.if-note_missed-2.true)

pub returns-then-note_missed-2-clause-keeps : goal.returns-then-note_missed-2-clause-keeps
returns-then-note_missed-2-clause-keeps c =
    let same = c.self.inside in
    let others = same.others.entries in
    subst (λ (old : Entries). Keeps old (entries_of c.note_missed.new.place c.note_missed-2.new.place same.room others) (At c.args.side c.args.key c.args.scope) (Found None)) c.self.view_is
    (keeps_then (entries_of same.missed same.missed_too same.room others) (entries_of c.note_missed.new.place same.missed_too same.room others) (entries_of c.note_missed.new.place c.note_missed-2.new.place same.room others)
    (At c.args.side c.args.key c.args.scope) (Found None)
    (keeps_missed same.missed c.note_missed.new.place same.missed_too same.room others (At c.args.side c.args.key c.args.scope) (Found None) c.note_missed.ensures.keeps)
    (keeps_missed_too c.note_missed.new.place same.missed_too c.note_missed-2.new.place same.room others (At c.args.side c.args.key c.args.scope) (Found None) c.note_missed-2.ensures.keeps))

pub returns-clause-keeps : goal.returns-clause-keeps
returns-clause-keeps c =
    let same = c.self.inside in
    let others = same.others.entries in
    let place = c.note_missed.new.place in
    let place_too = c.note_missed-2.new.place in
    subst (λ (old : Entries). Keeps old c.keep_other.new.self (At c.args.side c.args.key c.args.scope) (Found None)) c.self.view_is
    (keeps_then (entries_of same.missed same.missed_too same.room others) (entries_of place place_too same.room others) c.keep_other.new.self (At c.args.side c.args.key c.args.scope) (Found None)
    (keeps_then (entries_of same.missed same.missed_too same.room others) (entries_of place same.missed_too same.room others) (entries_of place place_too same.room others) (At c.args.side c.args.key c.args.scope) (Found None)
    (keeps_missed same.missed place same.missed_too same.room others (At c.args.side c.args.key c.args.scope) (Found None) c.note_missed.ensures.keeps)
    (keeps_missed_too place same.missed_too place_too same.room others (At c.args.side c.args.key c.args.scope) (Found None) c.note_missed-2.ensures.keeps))
    c.keep_other.ensures.keeps)
