use Rattle.std.proofs.Common.{◌≡◌, length, rules}
use Rattle.std.proofs.lemmas.List.{nil_from_length}
use Rattle.pfr_listing.proofs.LineLemmas.{no_more, one_more}
use Rattle.pfr_listing.proofs.listing.in_their_order.Goals as goal

pub loop-line-preserved : goal.loop-line-preserved
loop-line-preserved c =
    one_more c.loop-line.states.items _ c.in_ok-listed_at.field-0 c.args.text.now c.loop-line.rest.now c.in-Some.line.now c.in-Some.behind.now
    c.loop-line.invariant c.in_ok-listed_at.ensures c.in-Some.ensures.parts c.in_ok-add.ensures

pub returns-then-is_empty : goal.returns-then-is_empty
returns-then-is_empty c =
    let long : length c.loop-line.rest.now ≡ 0 = Prim.search rules in
    let none = nil_from_length c.loop-line.rest.now long in
    no_more c.loop-line.states.items c.args.text.now c.loop-line.rest.now c.loop-line.invariant none
