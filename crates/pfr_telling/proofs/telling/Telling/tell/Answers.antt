use Rattle.std.proofs.Common.{List, [], ◌∷◌, Option, ◌++◌, ap, sym, subst, ◌∙◌, arith}
use Rattle.std.specs.Option.{option_to_list}
use Rattle.std.proofs.lemmas.List.{append_assoc, append-nil}
use Rattle.pfr_messages.specs.Messages.{Content}
use Rattle.pfr_sync.specs.declared.event.Event.{Event}
use Rattle.pfr_sync.specs.Messages.{closed_at}
use Rattle.pfr_telling.specs.declared.telling.Telling.{Telling}
use Rattle.pfr_telling.specs.Telling.{HasTold}
use Rattle.pfr_telling.proofs.ToldLemmas.{told_is}
use Rattle.pfr_telling.proofs.telling.Telling.tell.Goals as goal

pub returns-in_default-clause-told : goal.returns-in_default-clause-told
returns-in_default-clause-told c = λ (before : List Content) (events : List Event) told may.
    let self = c.args.self.now in
    let new : Telling = record { queue = c.tell.new.self; closed = self.closed } in
    let closed_before = closed_at self.queue.origin c.args.clock events in
    let went = c.in_ok-message.ensures.events events c.args.clock told.tells (omega arith, λ below. absurd (omega (arith, below)), may) in
    let closed = went.1 ∙ ap (λ (message : Option Content). closed_before ++ option_to_list message) c.in_default.is ∙ append-nil closed_before ∙ told.closed in
    subst (λ (more : List Event). HasTold before new c.args.clock (events ++ more))
    (sym (told_is c.args.kind c.args.clock c.args.state.now c.if-not-state.false))
    (record { tells = went.0; closed = rw c.in_ok-message.ensures.origin closed })

pub returns-in_ok-push-clause-told : goal.returns-in_ok-push-clause-told
returns-in_ok-push-clause-told c = λ (before : List Content) (events : List Event) told may.
    let self = c.args.self.now in
    let new : Telling = record { queue = c.tell.new.self; closed = c.push.new.self } in
    let message : Content = c.in-Some.message in
    let closed_before = closed_at self.queue.origin c.args.clock events in
    let went = c.in_ok-message.ensures.events events c.args.clock told.tells (omega arith, λ below. absurd (omega (arith, below)), may) in
    let closed = went.1 ∙ ap (λ (message : Option Content). closed_before ++ option_to_list message) c.in-Some.is
    ∙ ap (λ (front : List Content). front ++ message ∷ []) told.closed
    ∙ append_assoc before self.closed.items (message ∷ [])
    ∙ ap (λ (more : List Content). before ++ more) (sym c.in_ok-push.ensures.items) in
    subst (λ (more : List Event). HasTold before new c.args.clock (events ++ more))
    (sym (told_is c.args.kind c.args.clock c.args.state.now c.if-not-state.false))
    (record { tells = went.0; closed = rw c.in_ok-message.ensures.origin closed })
