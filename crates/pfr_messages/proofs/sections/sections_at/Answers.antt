use Rattle.std.proofs.Common.{◌≡◌, ◌∙◌, sym, refl, false}
use Rattle.pfr_messages.specs.Messages.{is_empty, sections_at}
use Rattle.pfr_messages.proofs.MessageParts.{not_empty}
use Rattle.pfr_messages.proofs.sections.sections_at.Goals as goal

pub returns-then-not-is_empty : goal.returns-then-not-is_empty
unfolding sections_at
returns-then-not-is_empty c =
    let some : is_empty c.in_ok-deletions.head.rest.now ≡ false =
    not_empty c.in_ok-deletions.head.rest.now (sym c.is_empty.ensures ∙ c.if-not-is_empty.true) in
    rw (c.in_ok-head.ensures, c.in_ok-insertions.ensures, c.in_ok-updates.ensures, c.in_ok-deletions.ensures, some) refl
