use Rattle.std.proofs.Common.{List, ℕ, refl, sym, ◌∙◌}
use Rattle.std.proofs.lemmas.Result.{on_ok_weaker}
use Rattle.pfr_messages.specs.Messages.{Content}
use Rattle.pfr_sync.specs.declared.event.EventKind.TheVariants.{Touched}
use Rattle.pfr_sync.specs.declared.event.Event.{Event}
use Rattle.pfr_telling.specs.Telling.{IsNextChange}
use Rattle.pfr_telling.proofs.ToldLemmas.{may_come, removal_may_come}
use Rattle.pfr_telling.proofs.telling.Telling.tell_change.Goals as goal

pub returns-in-Touched-clause-told : goal.returns-in-Touched-clause-told
returns-in-Touched-clause-told c =
    let clock = c.args.clock in
    let states = c.args.table.now.states in
    on_ok_weaker c.tell-in-Touched.result (λ went (before : List Content) (events : List Event) (count : ℕ) told are (next : IsNextChange count c.args.table.now.states c.args.change.now).
    let touched = rw c.in-Touched.is at next in
    rw c.in-Touched.is (went before events told
    (may_come count clock states events (record { kind = Touched; state = c.in-Touched.state; clock = clock }) touched.0 are touched.1 touched.2 refl)))
    c.tell-in-Touched.ensures.told

pub returns-in-Some-clause-told : goal.returns-in-Some-clause-told
returns-in-Some-clause-told c =
    let found = sym c.get.ensures ∙ c.in-Some.is in
    on_ok_weaker c.tell-in-Some.result (λ went (before : List Content) (events : List Event) (count : ℕ) told are next.
    rw (c.in-Removed.is, found) (went before events told
    (removal_may_come count c.args.clock c.args.table.now.states events c.in-Removed.number c.in-Some.state are found)))
    c.tell-in-Some.ensures.told
