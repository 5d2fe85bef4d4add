use Rattle.std.proofs.Common.{refl, ◌∙◌, arith}
use Rattle.pfr_sync.proofs.NameLemmas.{plain_all, plain_more, plain_none}
use Rattle.pfr_sync.proofs.names.plain_names.Goals as goal

pub loop-place-init : goal.loop-place-init
loop-place-init c = plain_none c.new-plain.result c.new-plain.ensures

pub loop-place-preserved : goal.loop-place-preserved
loop-place-preserved c =
    let names = c.args.names.now in
    let l = c.loop-place in
    plain_more names l.plain l.place _ _ _ l.invariant (omega (arith, c.loop-place-test.true, c.min-place-end.ensures)) refl c.plain_name.ensures

pub returns : goal.returns
returns c =
    let l = c.loop-place in
    l.invariant ∙ plain_all c.args.names.now l.place (omega (arith, c.loop-place-test.false, l.auto.place-end, c.min-place-end.ensures))
