use Rattle.std.proofs.Common.{sym, subst}
use Rattle.pfr_record.specs.Record.{Entries, IsKept, Keeps, entries_of}
use Rattle.pfr_record.proofs.LookupLemmas.{keeps_after, keeps_others, kept_others}
use Rattle.pfr_record.proofs.RecordLemmas.{kept_here}
use Rattle.pfr_record.proofs.lookups.Lookups.keep_other.Goals as goal

pub returns-clause-noted : goal.returns-clause-noted
returns-clause-noted c =
    kept_others c.self.inside.missed c.self.inside.missed_too c.self.inside.room c.insert.new.self.entries c.args.question
    (subst (λ (es : Entries). IsKept es c.args.question) (sym c.in_ok-insert.ensures.entries) (kept_here c.self.inside.others.entries c.args.question c.args.answer))

pub returns-clause-keeps : goal.returns-clause-keeps
returns-clause-keeps c =
    let same = c.self.inside in
    subst (λ (old : Entries). Keeps old (entries_of same.missed same.missed_too same.room c.insert.new.self.entries) c.args.question c.args.answer) c.self.view_is
    (keeps_others same.missed same.missed_too same.room same.others.entries c.insert.new.self.entries c.args.question c.args.answer
    (keeps_after c.insert.result same.others.entries c.insert.new.self.entries c.args.question c.args.answer c.insert.ensures.entries c.insert.ensures.err))
