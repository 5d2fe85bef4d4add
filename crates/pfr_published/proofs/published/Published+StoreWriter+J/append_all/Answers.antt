use Rattle.std.proofs.Common.{◌≡◌, ◌<◌, ◌++◌, ap, append_assoc, length, refl, rules, sym, take, ◌+◌, ◌∙◌}
use Rattle.std.specs.Arc.{arc_value}
use Rattle.pfr_published.specs.Ends.{shown_next}
use Rattle.pfr_published.specs.Entries.{entry_at}
use Rattle.pfr_published.proofs.Entries.{take_more}
use Rattle.pfr_published.proofs.NextChange.{next_is}
use Rattle.pfr_published.proofs.published.Published+StoreWriter+J.append_all.Goals as goal

-- the writer keeps one change more, which is the next one
pub loop-index-preserved : goal.loop-index-preserved
loop-index-preserved g c =
    let loop = c.loop-index in
    let step = c.if-not-append_next.ensures in
    let changes = arc_value c.in-Ok.changes in
    let longer = step.longer refl in
    let inside : loop.index < length changes.items = search rules in
    let next = step.next refl ∙ next_is (shown_next loop.writer) loop.front c.append_next.new.front loop.invariant.list changes.items loop.index inside longer in
    let start = c.args.writer.now.desk.shown.value.front in
    let entries = c.args.changes.items in
    let same : changes.items ≡ entries = ap (λ list. list.items) c.in-Ok.ensures.ok in
    let begun : loop.front ++ entry_at changes.items loop.index ≡ (start ++ take loop.index entries) ++ entry_at entries loop.index =
    λ t. loop.invariant.front t ++ entry_at (same t) loop.index in
    let joined : (start ++ take loop.index entries) ++ entry_at entries loop.index ≡ start ++ take (loop.index + 1) entries =
    append_assoc start (take loop.index entries) (entry_at entries loop.index) ∙ ap (λ more. start ++ more) (sym (take_more entries loop.index)) in
    record {
      desk = step.desk ∙ loop.invariant.desk;
      front = longer ∙ begun ∙ joined;
      list = ap (λ progress. progress.changes) next;
      shown = ap (λ progress. progress.is_shown) next ∙ loop.invariant.shown;
    }
