use Rattle.std.proofs.Common.{◌∙◌, sym}
use Rattle.pfr_merge.proofs.RefillLemmas.{err_counts, err_refills, ok_counts, ok_refills}
use Rattle.pfr_merge.proofs.input.Input.refill.Goals as goal

pub returns-in-Ok-clause-reads : goal.returns-in-Ok-clause-reads
returns-in-Ok-clause-reads g c =
    λ told.
    rw (← c.self.view_is)
    (ok_refills g.S.Source.unread _ _ c.args.source.now c.next.new.source c.in-Ok.found c.self.inside.head (sym c.is_some.ensures ∙ c.if-is_some.false) c.in-Ok.ensures.again c.next.ensures.same.0 c.in-Ok.ensures.answers (λ over. c.in-Ok.ensures.reads_on over told) (λ over. c.in-Ok.ensures.end over told))

pub returns-in-Err-clause-reads : goal.returns-in-Err-clause-reads
returns-in-Err-clause-reads g c =
    λ told.
    rw (← c.self.view_is)
    (err_refills g.S.Source.unread _ _ c.args.source.now c.next.new.source c.in-Err.e c.self.inside.head (sym c.is_some.ensures ∙ c.if-is_some.false) c.in-Err.ensures.again c.next.ensures.same.0 c.in-Err.ensures.answers (λ over. c.in-Err.ensures.reads_on over told) (λ over. c.in-Err.ensures.refused over told))

pub returns-in-Ok-clause-counts : goal.returns-in-Ok-clause-counts
returns-in-Ok-clause-counts g c =
    rw (← c.self.view_is)
    (ok_counts g.S.Source.unread _ _ c.args.source.now c.next.new.source c.in-Ok.found c.self.inside.head (sym c.is_some.ensures ∙ c.if-is_some.false) c.in-Ok.ensures.again c.in-Ok.ensures.answers)

pub returns-in-Err-clause-counts : goal.returns-in-Err-clause-counts
returns-in-Err-clause-counts g c =
    rw (← c.self.view_is)
    (err_counts g.S.Source.unread _ _ c.args.source.now c.next.new.source c.in-Err.e c.self.inside.head c.in-Err.ensures.again c.in-Err.ensures.answers)
