use Rattle.std.proofs.Common.{rules, ◌≡◌, [], ◌∷◌, ◌++◌, length, ap, ◌∙◌}
use Rattle.pfr_sync.proofs.OrderLemmas.{added}
use Rattle.pfr_sync.proofs.entries.add_slot.Goals as goal

pub returns-clause-slots : goal.returns-clause-slots
returns-clause-slots c =
    let slot : c.len-slot.result ≡ length c.args.slots.now.items = search rules in
    let is = added c.args.slots.now.items c.args.order.now.items _ c.len-slot.result c.push.new.self.items c.push-2.new.self.items c.requires c.in_ok-push.ensures.items (c.in_ok-push-2.ensures.items ∙ ap (λ order. order ++ c.len-slot.result ∷ []) c.in_ok-reserve.ensures.items) slot in
    is.are_slots

pub returns-clause-entries : goal.returns-clause-entries
returns-clause-entries c =
    let slot : c.len-slot.result ≡ length c.args.slots.now.items = search rules in
    let is = added c.args.slots.now.items c.args.order.now.items _ c.len-slot.result c.push.new.self.items c.push-2.new.self.items c.requires c.in_ok-push.ensures.items (c.in_ok-push-2.ensures.items ∙ ap (λ order. order ++ c.len-slot.result ∷ []) c.in_ok-reserve.ensures.items) slot in
    is.is
