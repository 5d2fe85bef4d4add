use Rattle.std.proofs.Common.{◌≡◌, ◌+◌, ◌≤◌, List, ℕ, length, ap, subst, ◌∙◌, arith}
use Rattle.std.specs.Int.{to_be_bytes, w16}
use Rattle.pfr_messages.specs.declared.records.Insertion.{Insertion}
use Rattle.pfr_messages.specs.declared.records.Update.{Update}
use Rattle.pfr_messages.specs.declared.records.Deletion.{Deletion}
use Rattle.pfr_messages.specs.Fields.{Puts}
use Rattle.pfr_messages.specs.Messages.{deletes, inserts, section, section_len, sections, updating}
use Rattle.pfr_messages.proofs.Lengths.{lens}
use Rattle.pfr_messages.proofs.Puts.{first}
use Rattle.pfr_messages.proofs.encoding.encode_onto.Goals as goal

pub section_len-requires-clause-sixteen_bits : goal.section_len-requires-clause-sixteen_bits
section_len-requires-clause-sixteen_bits c =
    rw c.insertions-insertions.ensures (lens c.args.message.now c.has_spelling.ensures).insertions

pub section_len-requires-2-clause-sixteen_bits : goal.section_len-requires-2-clause-sixteen_bits
section_len-requires-2-clause-sixteen_bits c =
    rw c.updates-updates.ensures (lens c.args.message.now c.has_spelling.ensures).updates

pub section_len-requires-3-clause-sixteen_bits : goal.section_len-requires-3-clause-sixteen_bits
section_len-requires-3-clause-sixteen_bits c =
    rw c.deletions-deletions.ensures (lens c.args.message.now c.has_spelling.ensures).deletions

pub overflow_add-len-2 : goal.overflow_add-len-2
overflow_add-len-2 c =
    let m = c.args.message.now in
    let i : c.section_len.result ≡ section_len 242 (length m.insertions) =
    c.section_len.ensures ∙ ap (λ (l : List Insertion). section_len 242 (length l)) c.insertions-insertions.ensures in
    let j : c.section_len-2.result ≡ section_len 84 (length m.updates) =
    c.section_len-2.ensures ∙ ap (λ (l : List Update). section_len 84 (length l)) c.updates-updates.ensures in
    let l = lens m c.has_spelling.ensures in
    let short : 24 + section_len 242 (length m.insertions) + section_len 84 (length m.updates) + section_len 12
    (length m.deletions) ≤ 1480 = l.short in
    omega (arith, i, j, short)

pub overflow_add-len-3 : goal.overflow_add-len-3
overflow_add-len-3 c =
    let m = c.args.message.now in
    let i : c.section_len.result ≡ section_len 242 (length m.insertions) =
    c.section_len.ensures ∙ ap (λ (l : List Insertion). section_len 242 (length l)) c.insertions-insertions.ensures in
    let j : c.section_len-2.result ≡ section_len 84 (length m.updates) =
    c.section_len-2.ensures ∙ ap (λ (l : List Update). section_len 84 (length l)) c.updates-updates.ensures in
    let k : c.section_len-3.result ≡ section_len 12 (length m.deletions) =
    c.section_len-3.ensures ∙ ap (λ (l : List Deletion). section_len 12 (length l)) c.deletions-deletions.ensures in
    let l = lens m c.has_spelling.ensures in
    let short : 24 + section_len 242 (length m.insertions) + section_len 84 (length m.updates) + section_len 12
    (length m.deletions) ≤ 1480 = l.short in
    omega (arith, i, j, k, short)

pub overflow_cast-len : goal.overflow_cast-len
overflow_cast-len c =
    let m = c.args.message.now in
    let i : c.section_len.result ≡ section_len 242 (length m.insertions) =
    c.section_len.ensures ∙ ap (λ (l : List Insertion). section_len 242 (length l)) c.insertions-insertions.ensures in
    let j : c.section_len-2.result ≡ section_len 84 (length m.updates) =
    c.section_len-2.ensures ∙ ap (λ (l : List Update). section_len 84 (length l)) c.updates-updates.ensures in
    let k : c.section_len-3.result ≡ section_len 12 (length m.deletions) =
    c.section_len-3.ensures ∙ ap (λ (l : List Deletion). section_len 12 (length l)) c.deletions-deletions.ensures in
    let l = lens m c.has_spelling.ensures in
    let short : 24 + section_len 242 (length m.insertions) + section_len 84 (length m.updates) + section_len 12
    (length m.deletions) ≤ 1480 = l.short in
    omega (arith, i, j, k, short)

pub put_section-requires-clause-fit : goal.put_section-requires-clause-fit
put_section-requires-clause-fit c = rw c.insertions-insertions.ensures c.has_spelling.ensures.insertions

pub put_section-requires-clause-short : goal.put_section-requires-clause-short
put_section-requires-clause-short c =
    rw c.insertions-insertions.ensures (lens c.args.message.now c.has_spelling.ensures).insertions

pub put_section-requires-2-clause-fit : goal.put_section-requires-2-clause-fit
put_section-requires-2-clause-fit c = rw c.updates-updates.ensures c.has_spelling.ensures.updates

pub put_section-requires-2-clause-short : goal.put_section-requires-2-clause-short
put_section-requires-2-clause-short c = rw c.updates-updates.ensures (lens c.args.message.now c.has_spelling.ensures).updates

pub put_section-requires-3-clause-fit : goal.put_section-requires-3-clause-fit
put_section-requires-3-clause-fit c = rw c.deletions-deletions.ensures c.has_spelling.ensures.deletions

pub put_section-requires-3-clause-short : goal.put_section-requires-3-clause-short
put_section-requires-3-clause-short c =
    rw c.deletions-deletions.ensures (lens c.args.message.now c.has_spelling.ensures).deletions

pub returns : goal.returns
returns c =
    let m = c.args.message.now in
    let i : c.section_len.result ≡ section_len 242 (length m.insertions) =
    c.section_len.ensures ∙ ap (λ (l : List Insertion). section_len 242 (length l)) c.insertions-insertions.ensures in
    let j : c.section_len-2.result ≡ section_len 84 (length m.updates) =
    c.section_len-2.ensures ∙ ap (λ (l : List Update). section_len 84 (length l)) c.updates-updates.ensures in
    let k : c.section_len-3.result ≡ section_len 12 (length m.deletions) =
    c.section_len-3.ensures ∙ ap (λ (l : List Deletion). section_len 12 (length l)) c.deletions-deletions.ensures in
    let l = lens m c.has_spelling.ensures in
    let whole : 20 + length (sections m) ≡ 24 + section_len 242 (length m.insertions) + section_len 84
    (length m.updates) + section_len 12 (length m.deletions) = l.whole in
    let len : 24 + c.section_len.result + c.section_len-2.result + c.section_len-3.result ≡ 20 + length (sections m) =
    omega (arith, i, j, k, whole) in
    let put_len : Puts c.put_bytes.new.out.items (to_be_bytes w16 (20 + length (sections m))) c.put_u16.new.out.items =
    subst (λ (n : ℕ). Puts c.put_bytes.new.out.items (to_be_bytes w16 n) c.put_u16.new.out.items) len
    c.in_ok-put_u16.ensures in
    let put_checksum : Puts c.put_u16.new.out.items m.checksum c.put_bytes-2.new.out.items =
    subst (λ (bytes : List ℕ). Puts c.put_u16.new.out.items bytes c.put_bytes-2.new.out.items) c.checksum.ensures
    c.in_ok-put_bytes-2.ensures in
    let put_insertions : Puts c.put_bytes-2.new.out.items (section inserts m.insertions) c.put_section.new.out.items =
    subst (λ (l : List Insertion). Puts c.put_bytes-2.new.out.items (section inserts l) c.put_section.new.out.items)
    c.insertions-insertions.ensures c.in_ok-put_section.ensures in
    let put_updates : Puts c.put_section.new.out.items (section updating m.updates) c.put_section-2.new.out.items =
    subst (λ (l : List Update). Puts c.put_section.new.out.items (section updating l) c.put_section-2.new.out.items)
    c.updates-updates.ensures c.in_ok-put_section-2.ensures in
    let put_deletions : Puts c.put_section-2.new.out.items (section deletes m.deletions) c.put_section-3.new.out.items =
    subst (λ (l : List Deletion). Puts c.put_section-2.new.out.items (section deletes l) c.put_section-3.new.out.items)
    c.deletions-deletions.ensures c.in_ok-put_section-3.ensures in
    (first c.in_ok-put_bytes.ensures
    (first put_len (first put_checksum
    (first put_insertions (first put_updates (first put_deletions c.in_ok-put_bytes-3.ensures)))))).are
