use Rattle.std.proofs.Common.{◌∙◌, [], ◌∷◌, ◌++◌, length, get_or, append_assoc, List, ap, sym, subst, arith}
use Rattle.std.specs.List.{AllZip}
use Rattle.std.specs.Vec.Iter.{into_iter_items}
use Rattle.std.proofs.lemmas.Bool.{false≢true, lt-ltb}
use Rattle.pfr_capture.specs.declared.capture.Record.{Record}
use Rattle.pfr_feed.specs.Batches.{IsViewOf}
use Rattle.pfr_feed.proofs.ViewLemmas.{as_many, one_viewed, view_at, view_there}
use Rattle.pfr_work.proofs.batch.with_views.Goals as goal

pub loop-packet-preserved : goal.loop-packet-preserved
loop-packet-preserved c =
    let before = c.loop-packet.invariant in
    let yielded = c.loop-packet.yielded in
    let packet = c.in-Some.packet in
    let rest = into_iter_items c.next.new.self in
    let step = c.in-Some.ensures.steps.0 in
    let all = subst (λ (items : List Record). AllZip IsViewOf items c.args.views.now) (sym c.into_iter-packet-iterator.ensures.into_iter_gives.0 ∙ (sym before.split ∙ ap (λ (items : List Record). yielded ++ items) step)) c.requires in
    let place = c.len-in-loop-packet.ensures ∙ c.loop-packet.packets.ok.0 ∙ as_many yielded c.loop-packet.packets.items before.viewed in
    let view = c.in-Some-get.view.now in
    record {
      next = tt;
      finite = tt;
      split = append_assoc yielded (packet ∷ []) rest ∙ (ap (λ (items : List Record). yielded ++ items) (sym step) ∙ before.split);
      viewed = rw c.in_ok-push-in-Some-get.ensures.items (one_viewed yielded c.loop-packet.packets.items packet view before.viewed
          (c.in-Some-get.ensures.lookup.1 ∙ ap (λ k. get_or c.args.views.now k view) place ∙ view_at yielded packet rest c.args.views.now view all));
    }

pub unreachable-requires : goal.unreachable-requires
unreachable-requires c =
    let before = c.loop-packet.invariant in
    let yielded = c.loop-packet.yielded in
    let step = c.in-Some.ensures.steps.0 in
    let all = subst (λ (items : List Record). AllZip IsViewOf items c.args.views.now) (sym c.into_iter-packet-iterator.ensures.into_iter_gives.0 ∙ (sym before.split ∙ ap (λ (items : List Record). yielded ++ items) step)) c.requires in
    let place = c.len-in-loop-packet.ensures ∙ c.loop-packet.packets.ok.0 ∙ as_many yielded c.loop-packet.packets.items before.viewed in
    let there = view_there yielded c.in-Some.packet (into_iter_items c.next.new.self) c.args.views.now all in
    false≢true (c.in-None-get.ensures.lookup.0 ∙ lt-ltb c.len-in-loop-packet.result (length c.args.views.now) (omega (arith, place, there)))
