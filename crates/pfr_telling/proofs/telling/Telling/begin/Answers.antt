use Rattle.std.proofs.Common.{List}
use Rattle.std.proofs.lemmas.List.{append-nil}
use Rattle.std.proofs.lemmas.Result.{on_ok_weaker}
use Rattle.pfr_messages.specs.Messages.{Content}
use Rattle.pfr_sync.specs.declared.event.Event.{Event}
use Rattle.pfr_telling.proofs.telling.Telling.begin.Goals as goal

pub returns-clause-told : goal.returns-clause-told
returns-clause-told c =
    on_ok_weaker c.close_before.result (λ went (before : List Content) (events : List Event) tells closed early.
    went before events (record { tells = tells; closed = rw (c.clear.ensures.items, append-nil before) closed }) early) c.close_before.ensures.told
