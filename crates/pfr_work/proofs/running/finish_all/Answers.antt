use Rattle.std.proofs.Common.{◌∙◌, ◌++◌, ◌∷◌, [], List, length, map, append_assoc, refl, sym, ap, arith}
use Rattle.std.proofs.lemmas.List.{append-nil}
use Rattle.pfr_claims.specs.Batches.{Batch}
use Rattle.pfr_work.specs.Running.{claims_in}
use Rattle.pfr_work.proofs.BackLemmas.{came_more, extends_on, not_empty, one_came}
use Rattle.pfr_work.proofs.running.finish_all.Goals as goal

pub loop-open_batch-init : goal.loop-open_batch-init
loop-open_batch-init g c = record {
  room = c.requires.room;
  gone = [];
  split = refl;
  came = λ back came. rw (append-nil back) came;
  more = ([], sym (append-nil c.args.course.now.entries.items));
  none = λ none. refl;
  others = (refl, refl);
}

pub loop-open_batch-preserved : goal.loop-open_batch-preserved
loop-open_batch-preserved g c =
    let i = c.loop-open_batch.invariant in
    let batch = claims_in c.in-Some.open_batch in
    let items = c.in-Some.ensures.items in
    let later = c.pop_front.new.self.items in
    let long = ap (λ (w : List _). length w) items in
    let room = i.room in
    let one = one_came c.finish-gathered.result.gathered batch _ _ _ _ c.finish-gathered.ensures.own c.put-is_whole.ensures.entries c.put-is_whole.ensures.lost in
    record {
      room = (c.put-is_whole.ensures.stays (length later) (let entries = room.0 in omega (arith, long, entries)), c.put-is_whole.ensures.lost_stays (length later) (let lost = room.1 in omega (arith, long, lost)));
      gone = i.gone ++ batch ∷ [];
      split = i.split ∙ ap (λ (w : List _). i.gone ++ map claims_in w) items ∙ sym (append_assoc i.gone (batch ∷ []) (map claims_in later));
      came = came_more i.gone batch _ _ _ _ _ _ i.came one;
      more = extends_on _ _ _ batch _ _ i.more one;
      none = λ none. absurd (not_empty i.gone batch (map claims_in later) (ap (λ (w : List Batch). w) (sym (i.split ∙ ap (λ (w : List _). i.gone ++ map claims_in w) items) ∙ none)));
      others = (c.put-is_whole.ensures.others.0 ∙ i.others.0, c.put-is_whole.ensures.others.1 ∙ i.others.1);
    }
