use Rattle.std.proofs.Common.{List, ℕ, IfSome}
use Rattle.std.proofs.lemmas.Result.{on_ok_weaker}
use Rattle.pfr_messages.specs.Messages.{Content}
use Rattle.pfr_sync.specs.declared.event.Event.{Event}
use Rattle.pfr_telling.specs.Telling.{IsNextChange}
use Rattle.pfr_telling.proofs.telling.Telling.change.Goals as goal

pub returns-clause-told : goal.returns-clause-told
returns-clause-told c =
    on_ok_weaker c.apply.result (λ went (before : List Content) (events : List Event) (count : ℕ) told are (next : IfSome c.args.change.now (λ change. IsNextChange count c.args.table.now.states change)).
    rw c.in-Some.is (c.in_ok-tell_change.ensures.told before events count told are (rw c.in-Some.is at next))) c.apply.ensures
