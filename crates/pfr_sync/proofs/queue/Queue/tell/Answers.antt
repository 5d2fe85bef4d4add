use Rattle.std.proofs.Common.{◌≡◌, false, ap, subst, sym, ◌∙◌}
use Rattle.std.proofs.lemmas.Result.{IfOk-weaker}
use Rattle.pfr_sync.specs.declared.event.Event.{Event}
use Rattle.pfr_sync.specs.Queues.{IsQueue, Queued, has_older}
use Rattle.pfr_sync.proofs.CountLemmas.{enters_room, few_counted}
use Rattle.pfr_sync.proofs.PartLemmas.{restarts_full, restarts_older, takes}
use Rattle.pfr_sync.proofs.queue.Queue.tell.Goals as goal

pub returns-then-has_older-clause-events : goal.returns-then-has_older-clause-events
returns-then-has_older-clause-events c =
    let old = c.args.self.now in
    let event : Event = record { kind = c.args.kind; state = c.args.state.now; clock = c.args.clock } in
    let keeps = subst (λ (q : Queued). IsQueue q.origin q.entries) c.self.view_is c.self.invariant.0 in
    let older = sym c.has_older.ensures ∙ c.if-has_older.true in
    let at = ap (λ (q : Queued). q.clock) c.restart.view_is in
    IfOk-weaker c.restart-then-has_older.result _ _ (λ message restarts. restarts_older old c.restart.inside.clock event c.restart-then-has_older.new.self _ keeps older at restarts) c.restart-then-has_older.ensures.restarts

pub exchanged-counts-requires-clause-few : goal.exchanged-counts-requires-clause-few
exchanged-counts-requires-clause-few c = few_counted c.self.inside.origin c.self.inside.entries c.self.inside.counts c.self.invariant

pub returns-then-not-has_room-clause-message : goal.returns-then-not-has_room-clause-message
returns-then-not-has_room-clause-message c =
    let s = c.self.inside in
    let event : Event = record { kind = c.args.kind; state = c.args.state.now; clock = c.args.clock } in
    let is = c.edit_of-edit.ensures.entries c.args.clock in
    let older = sym c.has_older.ensures ∙ c.if-has_older.false in
    let full = sym c.has_room.ensures ∙ c.if-not-has_room.true in
    IfOk-weaker c.restart-then-not-has_room.result _ _ (λ message restarts.
    (restarts_full s.origin s.clock s.entries c.args.self.now event c.edit_of-edit.result s.counts c.exchanged-counts.result c.restart-then-not-has_room.new.self _
    c.self.view_is c.self.invariant is c.edit_of-edit.ensures.counts c.exchanged-counts.ensures.counts full older restarts).closes)
    c.restart-then-not-has_room.ensures.restarts

pub returns-then-not-has_room-clause-entries : goal.returns-then-not-has_room-clause-entries
returns-then-not-has_room-clause-entries c =
    let s = c.self.inside in
    let event : Event = record { kind = c.args.kind; state = c.args.state.now; clock = c.args.clock } in
    let is = c.edit_of-edit.ensures.entries c.args.clock in
    let older = sym c.has_older.ensures ∙ c.if-has_older.false in
    let full = sym c.has_room.ensures ∙ c.if-not-has_room.true in
    IfOk-weaker c.restart-then-not-has_room.result _ _ (λ message restarts.
    (restarts_full s.origin s.clock s.entries c.args.self.now event c.edit_of-edit.result s.counts c.exchanged-counts.result c.restart-then-not-has_room.new.self _
    c.self.view_is c.self.invariant is c.edit_of-edit.ensures.counts c.exchanged-counts.ensures.counts full older restarts).leaves)
    c.restart-then-not-has_room.ensures.restarts

pub returns-then-not-has_room-clause-events : goal.returns-then-not-has_room-clause-events
returns-then-not-has_room-clause-events c =
    let s = c.self.inside in
    let event : Event = record { kind = c.args.kind; state = c.args.state.now; clock = c.args.clock } in
    let is = c.edit_of-edit.ensures.entries c.args.clock in
    let older = sym c.has_older.ensures ∙ c.if-has_older.false in
    let full = sym c.has_room.ensures ∙ c.if-not-has_room.true in
    IfOk-weaker c.restart-then-not-has_room.result _ _ (λ message restarts.
    (restarts_full s.origin s.clock s.entries c.args.self.now event c.edit_of-edit.result s.counts c.exchanged-counts.result c.restart-then-not-has_room.new.self _
    c.self.view_is c.self.invariant is c.edit_of-edit.ensures.counts c.exchanged-counts.ensures.counts full older restarts).takes_it)
    c.restart-then-not-has_room.ensures.restarts

pub invariant_of-self-2 : goal.invariant_of-self-2
invariant_of-self-2 c =
    let s = c.self.inside in
    let event : Event = record { kind = c.args.kind; state = c.args.state.now; clock = c.args.clock } in
    let is = c.edit_of-edit.ensures.entries c.args.clock in
    let older = subst (λ (q : Queued). has_older q c.args.clock ≡ false) (sym c.self.view_is) (sym c.has_older.ensures ∙ c.if-has_older.false) in
    let room = sym c.has_room.ensures ∙ c.if-not-has_room.false in
    let enters = enters_room s.origin s.clock s.entries event c.edit_of-edit.result s.counts c.exchanged-counts.result c.apply.new.entries
    c.self.invariant older is c.edit_of-edit.ensures.counts c.exchanged-counts.ensures.counts room c.in_ok-apply.ensures.entries in
    (enters.0.keeps, enters.1)

pub returns-clause-message : goal.returns-clause-message
returns-clause-message c =
    let s = c.self.inside in
    let event : Event = record { kind = c.args.kind; state = c.args.state.now; clock = c.args.clock } in
    let is = c.edit_of-edit.ensures.entries c.args.clock in
    let older = subst (λ (q : Queued). has_older q c.args.clock ≡ false) (sym c.self.view_is) (sym c.has_older.ensures ∙ c.if-has_older.false) in
    let room = sym c.has_room.ensures ∙ c.if-not-has_room.false in
    let enters = enters_room s.origin s.clock s.entries event c.edit_of-edit.result s.counts c.exchanged-counts.result c.apply.new.entries
    c.self.invariant older is c.edit_of-edit.ensures.counts c.exchanged-counts.ensures.counts room c.in_ok-apply.ensures.entries in
    rw (← c.self.view_is) enters.0.closes

pub returns-clause-entries : goal.returns-clause-entries
returns-clause-entries c =
    let s = c.self.inside in
    let event : Event = record { kind = c.args.kind; state = c.args.state.now; clock = c.args.clock } in
    let is = c.edit_of-edit.ensures.entries c.args.clock in
    let older = subst (λ (q : Queued). has_older q c.args.clock ≡ false) (sym c.self.view_is) (sym c.has_older.ensures ∙ c.if-has_older.false) in
    let room = sym c.has_room.ensures ∙ c.if-not-has_room.false in
    let enters = enters_room s.origin s.clock s.entries event c.edit_of-edit.result s.counts c.exchanged-counts.result c.apply.new.entries
    c.self.invariant older is c.edit_of-edit.ensures.counts c.exchanged-counts.ensures.counts room c.in_ok-apply.ensures.entries in
    rw (← c.self.view_is) enters.0.leaves

pub returns-clause-events : goal.returns-clause-events
returns-clause-events c =
    let s = c.self.inside in
    let event : Event = record { kind = c.args.kind; state = c.args.state.now; clock = c.args.clock } in
    let is = c.edit_of-edit.ensures.entries c.args.clock in
    let older = subst (λ (q : Queued). has_older q c.args.clock ≡ false) (sym c.self.view_is) (sym c.has_older.ensures ∙ c.if-has_older.false) in
    let room = sym c.has_room.ensures ∙ c.if-not-has_room.false in
    let enters = enters_room s.origin s.clock s.entries event c.edit_of-edit.result s.counts c.exchanged-counts.result c.apply.new.entries
    c.self.invariant older is c.edit_of-edit.ensures.counts c.exchanged-counts.ensures.counts room c.in_ok-apply.ensures.entries in
    rw (← c.self.view_is) (takes s.origin s.clock s.entries event c.apply.new.entries _ c.self.invariant.0 enters.0)
