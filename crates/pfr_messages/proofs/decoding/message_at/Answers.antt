use Rattle.std.proofs.Common.{◌≡◌, ◌∙◌, ◌-◌, ◌+◌, ◌*◌, List, ℕ, drop, get_or, take, sym, ap, subst}
use Rattle.pfr_messages.specs.Messages.{IsFault, answer, sections_at}
use Rattle.pfr_messages.proofs.MessageParts.{is_refused, message_is}
use Rattle.pfr_messages.proofs.decoding.message_at.Goals as goal

pub returns-in-Ok : goal.returns-in-Ok
returns-in-Ok c =
    let bytes = c.args.bytes.now in
    let len = c.from-len.result in
    let spelled : get_or bytes 2 0 * 256 + get_or bytes 3 0 ≡ len = sym (c.from-len.ensures ∙ c.from_be_bytes.ensures) in
    message_is bytes len c.if-bytes-lt20.false c.if-bytes-ne5.false c.if-bytes-ne0.false spelled c.if-len-lt40.false
    c.if-len-gt1480.false c.if-bytes-len.false
    ∙ ap (λ (checksum : List ℕ). answer len (sections_at checksum (take (len - 20) (drop 20 bytes))))
    (sym c.copy_from_slice.ensures.after) ∙ ap (answer len) c.in-Ok.ensures

pub returns-in-Err : goal.returns-in-Err
returns-in-Err c =
    let bytes = c.args.bytes.now in
    let len = c.from-len.result in
    let spelled : get_or bytes 2 0 * 256 + get_or bytes 3 0 ≡ len = sym (c.from-len.ensures ∙ c.from_be_bytes.ensures) in
    let is = message_is bytes len c.if-bytes-lt20.false c.if-bytes-ne5.false c.if-bytes-ne0.false spelled c.if-len-lt40.false
    c.if-len-gt1480.false c.if-bytes-len.false in
    let read = subst (λ (checksum : List ℕ). IsFault c.in-Err.refused (sections_at checksum (take (len - 20) (drop 20 bytes))))
    c.copy_from_slice.ensures.after c.in-Err.ensures in
    let refused = is_refused len c.in-Err.refused (sections_at (take 16 (drop 4 bytes)) (take (len - 20) (drop 20 bytes))) read in
    rw (c.in_message.ensures, is) refused
