use Rattle.std.proofs.Common.{◌≤◌, ◌∙◌, arith, length, ◌-◌, slice_index_or}
use Rattle.std.proofs.lemmas.List.{length-set}
use Rattle.pfr_words.proofs.BraceLemmas.{marks, counts, one_more}
use Rattle.pfr_words.proofs.braces.close_braces.Goals as goal

pub loop-at-preserved : goal.loop-at-preserved
loop-at-preserved c =
    let old = c.args.words.now in
    let known = c.loop-at.invariant.0 in
    let counted = c.loop-at.invariant.1 in
    let within : c.loop-at.at ≤ length old = grind arith in
    let word = marks c.loop-at.at old c.loop-at.words _ c.loop-at-test.true within known in
    let closers = counts c.loop-at.at old c.loop-at.words _ c.loop-at-test.true within known in
    let more = one_more (slice_index_or c.loop-at.words (c.loop-at.at - 1) c.index-words-at.result).token c.loop-at.closers in (
      rw (c.close_brace-closers.ensures.word, counted) word,
      rw (c.close_brace-closers.ensures.closers, counted) closers,
      omega (arith, more, c.close_brace-closers.ensures.closers, c.loop-at.invariant.2, c.loop-at-test.true),
      length-set c.loop-at.words (c.loop-at.at - 1) c.close_brace-closers.new.word ∙ c.loop-at.invariant.3,
    )
