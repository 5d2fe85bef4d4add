use Rattle.std.proofs.Common.{Bool, IsTrue, sym, subst}
use Rattle.std.proofs.lemmas.Bool.{false≢true}
use Rattle.pfr_states.specs.Answers.{purged_at}
use Rattle.pfr_record.specs.Record.{Agrees, Entries}
use Rattle.pfr_record.proofs.LookupLemmas.{agree_all, all_agree}
use Rattle.pfr_record.proofs.lookups.Lookups.hold_near.Goals as goal

pub returns-then-not-is_missed-2 : goal.returns-then-not-is_missed-2
returns-then-not-is_missed-2 c =
    let seen = purged_at c.args.clock c.args.table.now in (
      λ no. absurd (false≢true no),
      λ agrees. subst (λ (b : Bool). IsTrue b) c.if-not-is_missed-2.true
          (c.is_missed-2.ensures.1 (all_agree seen c.self.inside.missed c.self.inside.missed_too c.self.inside.room c.self.inside.others.entries (subst (λ (es : Entries). Agrees seen es) (sym c.self.view_is) agrees)).1),
    )

pub returns-then-not-has_room_so : goal.returns-then-not-has_room_so
returns-then-not-has_room_so c =
    let seen = purged_at c.args.clock c.args.table.now in (
      λ no. absurd (false≢true no),
      λ agrees. subst (λ (b : Bool). IsTrue b) c.if-not-has_room_so.true
          (c.has_room_so.ensures.1 (all_agree seen c.self.inside.missed c.self.inside.missed_too c.self.inside.room c.self.inside.others.entries (subst (λ (es : Entries). Agrees seen es) (sym c.self.view_is) agrees)).2),
    )

pub returns : goal.returns
returns c =
    let seen = purged_at c.args.clock c.args.table.now in (
      λ held. subst (λ (es : Entries). Agrees seen es) c.self.view_is
          (agree_all seen c.self.inside.missed c.self.inside.missed_too c.self.inside.room c.self.inside.others.entries (c.is_missed.ensures.0 c.if-not-is_missed.false) (c.is_missed-2.ensures.0 c.if-not-is_missed-2.false)
          (c.has_room_so.ensures.0 c.if-not-has_room_so.false) (c.are_answered.ensures.0 held)),
      λ agrees. c.are_answered.ensures.1 (all_agree seen c.self.inside.missed c.self.inside.missed_too c.self.inside.room c.self.inside.others.entries (subst (λ (es : Entries). Agrees seen es) (sym c.self.view_is) agrees)).3,
    )
