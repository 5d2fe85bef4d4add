use Rattle.std.proofs.Common.{◌≡◌, false, nat_eq, length, ◌∙◌}
use Rattle.std.proofs.lemmas.Bool.{ne_eqb}
use Rattle.pfr_sync.proofs.MessageLemmas.{told_from}
use Rattle.pfr_sync.proofs.telling.message_of.Goals as goal

pub new-requires : goal.new-requires
new-requires c =
    let some : nat_eq (length c.args.entries.now) 0 ≡ false = ne_eqb (length c.args.entries.now) 0 (λ none. c.if-len-eq0.false (c.len.ensures ∙ none)) in
    let i = c.in_ok-insertions in
    let u = c.in_ok-updates in
    let d = c.in_ok-deletions in
    (told_from c.args.origin.now c.args.clock c.args.entries.now i.insertions.items u.updates.items d.deletions.items c.requires some i.ensures.records u.ensures.records d.ensures.records i.ensures.fits u.ensures.fits d.ensures.fits).fits

pub returns : goal.returns
returns c =
    let some : nat_eq (length c.args.entries.now) 0 ≡ false = ne_eqb (length c.args.entries.now) 0 (λ none. c.if-len-eq0.false (c.len.ensures ∙ none)) in
    let i = c.in_ok-insertions in
    let u = c.in_ok-updates in
    let d = c.in_ok-deletions in
    rw c.new.ensures (told_from c.args.origin.now c.args.clock c.args.entries.now i.insertions.items u.updates.items d.deletions.items c.requires some i.ensures.records u.ensures.records d.ensures.records i.ensures.fits u.ensures.fits d.ensures.fits).is
