use Rattle.std.proofs.Common.{rules, ◌≡◌, ◌≢◌, ◌<◌, ◌∙◌, length, sym, arith}
use Rattle.pfr_given.proofs.PartLemmas.{blank_here, no_more, word_here}
use Rattle.pfr_given.proofs.parts.first_word.Goals as goal

pub returns-then-not-is_empty-clause-words : goal.returns-then-not-is_empty-clause-words
returns-then-not-is_empty-clause-words c =
    let some : length c.cut_at.result.0.now ≢ 0 = search rules in
    sym c.loop-rest.invariant.0 ∙ word_here c.loop-rest.rest.now c.cut_at.result.0.now c.cut_at.result.1.now c.cut_at.ensures.front c.cut_at.ensures.behind some

pub loop-rest-preserved : goal.loop-rest-preserved
loop-rest-preserved c =
    let none : length c.cut_at.result.0.now ≡ 0 = search rules in
    let some : 0 < length c.loop-rest.rest.now = search rules in (
      blank_here c.loop-rest.rest.now c.cut_at.result.0.now c.cut_at.result.1.now c.cut_at.ensures.front c.cut_at.ensures.behind none ∙ c.loop-rest.invariant.0,
      let shorter = c.cut_at.ensures.shorter some in omega (arith, shorter, c.loop-rest.invariant.1),
    )

pub returns-clause-words : goal.returns-clause-words
returns-clause-words c =
    let none : length c.loop-rest.rest.now ≡ 0 = search rules in
    sym c.loop-rest.invariant.0 ∙ no_more c.loop-rest.rest.now none
