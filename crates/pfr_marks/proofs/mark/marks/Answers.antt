use Rattle.std.proofs.Common.{◌≤◌, ◌∙◌, arith, length}
use Rattle.pfr_words.specs.Words.{piece_len}
use Rattle.pfr_marks.proofs.MarkLemmas.{next_mark}
use Rattle.pfr_marks.proofs.mark.marks.Goals as goal

pub loop-rest-preserved : goal.loop-rest-preserved
loop-rest-preserved c =
    let some : 1 ≤ length c.loop-rest.rest.now = grind arith in
    let moves : 1 ≤ piece_len c.loop-rest.rest.now = rw (← c.piece_len.ensures.value) c.piece_len.ensures.within.0 in
    let next = next_mark c.loop-rest.rest.now c.loop-rest.start c.loop-rest.found.items some moves in (
      rw (c.in_ok-add.ensures, c.behind-end.ensures.value, c.split_at.ensures.front, c.split_at.ensures.back, c.piece_len.ensures.value) (next ∙ c.loop-rest.invariant.0),
      grind arith,
      grind arith,
      grind arith,
    )
