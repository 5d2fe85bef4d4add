use Rattle.std.proofs.Common.{◌+◌, ◌∙◌, List, ap, subst, sym, take}
use Rattle.std.specs.List.{AllZip}
use Rattle.pfr_capture.specs.declared.capture.Record.{Record}
use Rattle.pfr_headers.specs.declared.packet.View.{View}
use Rattle.pfr_headers.specs.View.{view_of}
use Rattle.pfr_feed.specs.Batches.{IsViewOf}
use Rattle.pfr_feed.proofs.ViewLemmas.{taken}
use Rattle.pfr_work.proofs.views.views_in_turn.Goals as goal

pub loop-record-preserved : goal.loop-record-preserved
loop-record-preserved c =
    let packet = c.record-item.result in
    let own = c.view.ensures.view ∙ ap (view_of packet.link) c.as_slice.ensures.value in
    subst (λ (views : List View). AllZip IsViewOf (take (c.loop-record.record-index + 1) c.args.records.now) views) (sym c.in_ok-push.ensures.items)
    (taken IsViewOf c.args.records.now c.loop-record.views.items c.loop-record.record-index packet c.view.result c.loop-record-test.true c.loop-record.invariant (subst (λ (packet : Record). IsViewOf packet c.view.result) c.record-item.is own))
